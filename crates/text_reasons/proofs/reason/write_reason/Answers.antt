use Rattle.io_text.proofs.Sending.{flush_last}
use Rattle.text_reasons.specs.Reasons.{reason_text}
use Rattle.text_reasons.proofs.reason.write_reason.Goals as goal

pub returns : goal.returns
returns g c = flush_last _ _ _ _ (reason_text c.args.text.now c.args.fault.now c.args.column) _ (rw c.new-buffer.ensures at c.in_ok-add_reason.ensures) c.flush.ensures.wrote
