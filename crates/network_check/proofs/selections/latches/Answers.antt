use Rattle.std.proofs.Common.{refl}
use Rattle.network_check.proofs.Statements.{latches_by}
use Rattle.network_check.proofs.selections.latches.Goals as goal

pub returns-in-Assign : goal.returns-in-Assign
returns-in-Assign c =
    λ found. latches_by _ _ _ _ _ _ _ _ c.in-Assign.is c.if-written-variable.true (c.if-is_constant.ensures refl) c.deref.ensures (c.is_end.ensures found)
