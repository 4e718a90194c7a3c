use Rattle.std.proofs.Common.{refl}
use Rattle.diagram_program.specs.declared.geometry.TheConstants.{PLACES}
use Rattle.io_text.proofs.Sending.{sends_err}
use Rattle.text_power.specs.Why.{end_note}
use Rattle.text_power.proofs.Each.{cut_off, more, none_yet}
use Rattle.text_power.proofs.why.add_end_notes.Goals as goal

pub loop-end-init : goal.loop-end-init
loop-end-init g c = none_yet _ _ _

pub returns-in_err-add_end_note : goal.returns-in_err-add_end_note
returns-in_err-add_end_note g c = sends_err _ _ _ _ _ _ c.from_residual.ensures.0
    (cut_off (end_note c.args.rung.program.now c.args.rung.marks.now c.args.rung.number c.args.at) PLACES c.loop-end.end _ _ _ _ _ _ c.loop-end-test.true refl
    c.loop-end.invariant c.in_err-add_end_note.ensures)

pub loop-end-preserved : goal.loop-end-preserved
loop-end-preserved g c =
    more (end_note c.args.rung.program.now c.args.rung.marks.now c.args.rung.number c.args.at) c.loop-end.end _ _ _ _ _ _ _ refl c.loop-end.invariant c.in_ok-add_end_note.ensures
