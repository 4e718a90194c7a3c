use Rattle.io_text.proofs.Sending.{flush_last}
use Rattle.cli_draw.specs.Lines.{fault_text}
use Rattle.cli_draw.proofs.lines.write_fault.Goals as goal

pub returns : goal.returns
returns g c =
    flush_last _ _ _ _ (fault_text c.args.why c.args.text.now c.args.fault) _ (rw c.new-buffer.ensures at c.in_ok-add_fault.ensures) c.flush.ensures.wrote
