use Rattle.std.proofs.Common.{◌++◌, [], length, refl}
use Rattle.io_text.proofs.Sending.{sends_prefix, sends_last, sends_none, sends_err}
use Rattle.text_drawing.specs.Page.{before, closing, drawn_place}
use Rattle.text_drawing.specs.Pictures.{looks_of}
use Rattle.text_power.specs.Show.{each}
use Rattle.text_drawing.proofs.page.add_rung_line.Goals as goal

pub returns-in_err-add_places : goal.returns-in_err-add_places
returns-in_err-add_places g c = sends_err _ _ _ _ _ _ c.from_residual.ensures.0
    (let looks = looks_of c.args.line in
    let text = c.args.line.text.now in
    let places = each (drawn_place looks text) (length text) in
    let end = closing (before looks (length text)) in
    sends_prefix _ _ _ c.args.buffer.now c.args.buffer.now (places ++ end) [] places end refl (sends_none _ c.args.buffer.now) c.in_err-add_places.ensures)

pub returns : goal.returns
returns g c =
    let looks = looks_of c.args.line in
    let text = c.args.line.text.now in
    let places = each (drawn_place looks text) (length text) in
    let end = closing (before looks (length text)) in
    sends_last _ _ _ _ _ _ (places ++ end) places end _ refl c.in_ok-add_places.ensures
    (rw (c.tags_of.ensures.closing, c.look_before.ensures) at c.add.ensures)
