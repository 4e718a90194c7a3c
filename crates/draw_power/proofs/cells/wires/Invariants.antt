use Rattle.std.proofs.Common.{true}
use Rattle.draw_power.specs.Power.{Carries}
use Rattle.draw_power.proofs.cells.wires.Given as goal

abbrev pub invariant-loop : goal.invariant-loop
invariant-loop l = Carries l.net l.fn.at.from l.last (λ f. true)
