use Rattle.text_drawing.specs.Page.{button_start}
use Rattle.text_drawing.proofs.page.add_button.Goals as goal

pub returns : goal.returns
unfolding button_start
returns g c = rw (c.as_slice.ensures, c.moment.ensures) at c.add_pieces.ensures
