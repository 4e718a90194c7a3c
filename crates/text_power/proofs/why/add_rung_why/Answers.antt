use Rattle.std.proofs.Common.{refl}
use Rattle.diagram_program.specs.declared.geometry.TheConstants.{PLACES}
use Rattle.io_text.proofs.Sending.{sends_err}
use Rattle.text_power.specs.Why.{place_notes}
use Rattle.text_power.proofs.Each.{cut_off, more, none_yet}
use Rattle.text_power.proofs.why.add_rung_why.Goals as goal

pub loop-at-init : goal.loop-at-init
loop-at-init g c = none_yet _ _ _

pub returns-in_err-add_place_notes : goal.returns-in_err-add_place_notes
returns-in_err-add_place_notes g c = sends_err _ _ _ _ _ _ c.from_residual.ensures.0
    (cut_off (place_notes c.args.rung.program.now c.args.rung.marks.now c.args.var c.args.rung.number) PLACES c.loop-at.at _ _ _ _ _ _ c.loop-at-test.true refl
    c.loop-at.invariant c.in_err-add_place_notes.ensures)

pub loop-at-preserved : goal.loop-at-preserved
loop-at-preserved g c =
    more (place_notes c.args.rung.program.now c.args.rung.marks.now c.args.var c.args.rung.number) c.loop-at.at _ _ _ _ _ _ _ refl c.loop-at.invariant c.in_ok-add_place_notes.ensures
