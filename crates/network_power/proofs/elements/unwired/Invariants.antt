use Rattle.network_power.specs.Leading.{IsSame}
use Rattle.network_power.proofs.elements.unwired.Given as goal

abbrev pub invariant-loop : goal.invariant-loop
invariant-loop l = IsSame l.net l.fn.ids l.near
