use Rattle.std.proofs.Common.{refl}
use Rattle.network_check.proofs.Statements.{choice_by}
use Rattle.network_check.proofs.selections.choice_of.Goals as goal

pub returns-in-Select : goal.returns-in-Select
returns-in-Select c = choice_by _ _ _ _ _ _ _ _ _ _ _ _ c.in-Select.is refl c.deref.ensures c.deref-in-Select.ensures c.deref-in-Select-2.ensures
