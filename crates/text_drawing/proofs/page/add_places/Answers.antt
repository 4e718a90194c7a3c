use Rattle.std.proofs.Common.{refl}
use Rattle.io_text.proofs.Sending.{sends_err}
use Rattle.text_drawing.specs.Page.{drawn_place}
use Rattle.text_drawing.specs.Pictures.{looks_of}
use Rattle.text_power.proofs.Each.{cut_off, more, none_yet}
use Rattle.text_drawing.proofs.page.add_places.Goals as goal

pub loop-at-init : goal.loop-at-init
loop-at-init g c = none_yet _ _ _

pub returns-in_err-add_place : goal.returns-in_err-add_place
returns-in_err-add_place g c = sends_err _ _ _ _ _ _ c.from_residual.ensures.0
    (cut_off (drawn_place (looks_of c.args.line) c.args.line.text.now) _ c.loop-at.at _ _ _ _ _ _ c.loop-at-test.true refl c.loop-at.invariant
    c.in_err-add_place.ensures)

pub loop-at-preserved : goal.loop-at-preserved
loop-at-preserved g c =
    more (drawn_place (looks_of c.args.line) c.args.line.text.now) c.loop-at.at _ _ _ _ _ _ _ refl c.loop-at.invariant c.in_ok-add_place.ensures
