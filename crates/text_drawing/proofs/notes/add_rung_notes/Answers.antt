use Rattle.std.proofs.Common.{refl}
use Rattle.diagram_program.specs.declared.geometry.TheConstants.{PLACES}
use Rattle.io_text.proofs.Sending.{sends_err}
use Rattle.text_drawing.specs.Notes.{place_note}
use Rattle.text_power.proofs.Each.{cut_off, more, none_yet}
use Rattle.text_drawing.proofs.notes.add_rung_notes.Goals as goal

pub loop-at-init : goal.loop-at-init
loop-at-init g c = none_yet _ _ _

pub returns-in_err-add_place_note : goal.returns-in_err-add_place_note
returns-in_err-add_place_note g c = sends_err _ _ _ _ _ _ c.from_residual.ensures.0
    (cut_off (place_note c.args.picture.program.now c.args.picture.after.now c.args.picture.marks.now c.args.rung) PLACES c.loop-at.at _ _ _ _ _ _ c.loop-at-test.true refl
    c.loop-at.invariant c.in_err-add_place_note.ensures)

pub loop-at-preserved : goal.loop-at-preserved
loop-at-preserved g c =
    more (place_note c.args.picture.program.now c.args.picture.after.now c.args.picture.marks.now c.args.rung) c.loop-at.at _ _ _ _ _ _ _ refl c.loop-at.invariant c.in_ok-add_place_note.ensures
