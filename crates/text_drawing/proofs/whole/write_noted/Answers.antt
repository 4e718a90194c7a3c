use Rattle.io_text.proofs.Sending.{flush_last}
use Rattle.text_drawing.specs.Pictures.{of_picture}
use Rattle.text_drawing.specs.Showing.{whole_of}
use Rattle.text_drawing.proofs.whole.write_noted.Goals as goal

pub returns : goal.returns
returns g c =
    flush_last _ _ _ _ (of_picture (whole_of c.args.picture.style c.args.picture.coil) c.args.picture) _ (rw c.new-buffer.ensures at c.in_ok-add_noted.ensures) c.flush.ensures.wrote
