use Rattle.std.proofs.Common.{refl}
use Rattle.network_check.proofs.Statements.{assignment_does}
use Rattle.network_check.proofs.doing.behind_assignment.Goals as goal

pub returns-in-Assign : goal.returns-in-Assign
returns-in-Assign c = assignment_does _ _ _ _ _ _ _ _ _ _ c.in-Assign.is c.if-written-variable.true (c.if-shows.ensures refl) c.deref.ensures
