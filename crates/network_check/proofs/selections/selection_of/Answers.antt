use Rattle.std.proofs.Common.{refl}
use Rattle.network_check.proofs.Statements.{selection_by}
use Rattle.network_check.proofs.selections.selection_of.Goals as goal

pub returns-in-Select : goal.returns-in-Select
returns-in-Select c =
    selection_by _ _ _ c.deref.result.now _ _ _ _ _ _ _ c.in-Select.is c.deref-in-Select.ensures c.deref-in-Select-2.ensures c.deref.ensures
    (c.if-is_end.ensures refl)
