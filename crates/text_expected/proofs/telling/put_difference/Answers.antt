use Rattle.io_text.proofs.Sending.{flush_last}
use Rattle.text_expected.proofs.telling.put_difference.Goals as goal

pub returns : goal.returns
returns g c = flush_last _ _ _ _ _ _ (rw c.new-buffer.ensures at c.in_ok-add_difference.ensures) c.flush.ensures.wrote
