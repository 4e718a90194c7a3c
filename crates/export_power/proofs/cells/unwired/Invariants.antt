use Rattle.std.proofs.Common.{true}
use Rattle.export_power.specs.Carried.{Carries}
use Rattle.export_power.proofs.cells.unwired.Given as goal

abbrev pub invariant-loop : goal.invariant-loop
invariant-loop l = Carries l.net l.near l.fn.to (λ s. true)
