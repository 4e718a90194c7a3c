use Rattle.io_text.proofs.Sending.{flush_last}
use Rattle.cli_import.specs.Lines.{refusals_text}
use Rattle.cli_import.proofs.faults.write_refusals.Goals as goal

pub returns : goal.returns
returns g c =
    flush_last _ _ _ _ (refusals_text c.args.why c.args.refusals.now) _ (rw c.new-buffer.ensures at c.in_ok-add_refusals.ensures) c.flush.ensures.wrote
