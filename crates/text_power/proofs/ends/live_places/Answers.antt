use Rattle.std.proofs.Common.{◌≡◌, refl, subst, arith}
use Rattle.diagram_program.specs.declared.geometry.TheConstants.{PLACES}
use Rattle.text_power.specs.Ends.{AreAnswers, is_live, of_rung}
use Rattle.text_power.proofs.RouteEnds.{answers_none, answers_more}
use Rattle.text_power.proofs.ends.live_places.Goals as goal

pub loop-at-init : goal.loop-at-init
loop-at-init c = answers_none (of_rung is_live c.args.rung) c.args.rung.program.now c.args.rung.number _ refl

pub loop-at-preserved : goal.loop-at-preserved
loop-at-preserved c =
    answers_more (of_rung is_live c.args.rung) c.args.rung.program.now c.args.rung.number c.loop-at.at _ _ c.loop-at-test.true c.is_live.ensures c.loop-at.invariant

pub returns : goal.returns
returns c =
    let at_end : c.loop-at.at ≡ PLACES = omega (arith, c.loop-at-test.false, c.loop-at.auto.at-end) in
    subst (λ n. AreAnswers (of_rung is_live c.args.rung) c.args.rung.program.now c.args.rung.number n c.loop-at.live) at_end c.loop-at.invariant
