use Rattle.std.proofs.Common.{arith, below_more, rules}
use Rattle.clp_meaning.proofs.check.are_fed_alike.Goals as goal

pub loop-from-preserved : goal.loop-from-preserved
loop-from-preserved c = below_more _ _ c.loop-from.invariant (c.is_fed_alike.ensures.0 c.if-not-is_fed_alike.false)

pub returns : goal.returns
returns c = (λ same q below. c.loop-from.invariant q (omega (arith, below, c.loop-from-test.false)), λ alike. search rules)
