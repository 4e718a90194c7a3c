use Rattle.io_text.proofs.Sending.{flush_last}
use Rattle.cli_inputs.specs.FaultLine.{line_by}
use Rattle.cli_inputs.proofs.fault.write_line.Goals as goal

pub returns : goal.returns
returns g c = flush_last _ _ _ _ (line_by c.args.side c.args.fault.now) _ (rw c.new-buffer.ensures at c.in_ok-add_line.ensures) c.flush.ensures.wrote
