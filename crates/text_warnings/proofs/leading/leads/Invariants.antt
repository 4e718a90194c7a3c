use Rattle.text_warnings.specs.Below.{SomeBelow}
use Rattle.text_warnings.specs.Leading.{RouteBegins}
use Rattle.text_warnings.proofs.leading.leads.Given as goal

abbrev pub invariant-loop-row : goal.invariant-loop-row
invariant-loop-row l = SomeBelow l.row (RouteBegins l.program l.rung l.from l.count) → ⊥
