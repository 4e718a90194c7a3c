use Rattle.std.proofs.Common.{below_more, arith}
use Rattle.diagram_reader.proofs.page_check.broken_targets.Goals as goal

pub loop-rung-preserved : goal.loop-rung-preserved
loop-rung-preserved c = below_more _ _ c.loop-rung.invariant c.in_default.ensures.none

pub returns-clause-none : goal.returns-clause-none
returns-clause-none c = λ k below line. c.loop-rung.invariant k (omega (arith, below, c.loop-rung-test.false)) line
