use Rattle.draw_check.specs.Steps.{ArePrepared}
use Rattle.draw_check.proofs.helpers.prepare.Given as goal

abbrev pub invariant-loop-at : goal.invariant-loop-at
invariant-loop-at l = ArePrepared l.plan.program.now l.plan.variables l.helpers.items l.rung l.at
