use Rattle.std.proofs.Common.{◌<◌, arith, below_more, length, rules, subst}
use Rattle.std.proofs.lemmas.Option.{get_or_from_slice_get, slice_get-get_or}
use Rattle.clp_project.specs.declared.order.Placed.{Placed}
use Rattle.clp_meaning.specs.Carried.{IsRungCarried}
use Rattle.clp_meaning.proofs.check.are_carried.Goals as goal

pub loop-rung-preserved : goal.loop-rung-preserved
loop-rung-preserved c =
    let rungs = c.args.rungs.now in
    let rung = c.loop-rung.rung in
    below_more _ _ c.loop-rung.invariant (λ x is. subst (λ (y : Placed). IsRungCarried c.args.reading c.args.program.now rungs c.args.blocks.now rung y)
    (get_or_from_slice_get rungs rung x _ is) (c.is_rung_carried.ensures.0 c.if-not-is_rung_carried.false))

pub returns : goal.returns
returns c = (
  λ same k below. c.loop-rung.invariant k (omega (arith, below, c.loop-rung-test.false, c.rungs-rung-end.ensures.value, c.requires)),
  λ carried. search rules,
)

pub returns-then-not-is_rung_carried : goal.returns-then-not-is_rung_carried
returns-then-not-is_rung_carried c = (
  λ h. cc,
  λ carried.
      let rungs = c.args.rungs.now in
      let rung = c.loop-rung.rung in
      let below : rung < length rungs = omega (arith, c.loop-rung-test.true, c.rungs-rung-end.ensures.value, c.requires) in
      let on = c.is_rung_carried.ensures.1 (carried rung below _ (slice_get-get_or rungs rung _ below)) in
      cc,
)
