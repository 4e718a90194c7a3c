use Rattle.io_text.proofs.Sending.{flush_last}
use Rattle.cli_usage.specs.Rules.{broken_text, out_of}
use Rattle.cli_usage.proofs.telling.write_broken.Goals as goal

pub returns : goal.returns
returns g c = flush_last _ _ _ _ (broken_text (out_of c.args.broken.now)) _ (rw c.new-buffer.ensures at c.in_ok-add_broken.ensures) c.flush.ensures.wrote
