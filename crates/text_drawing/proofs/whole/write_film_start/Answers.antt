use Rattle.io_text.proofs.Sending.{flush_last}
use Rattle.text_drawing.specs.Showing.{film_start}
use Rattle.text_drawing.proofs.whole.write_film_start.Goals as goal

pub returns : goal.returns
returns g c = flush_last _ _ _ _ (film_start c.args.style c.args.title.now) _ (rw c.new-buffer.ensures at c.in_ok-add_film_start.ensures) c.flush.ensures.wrote
