use Rattle.network_check.proofs.Statements.{return_by}
use Rattle.network_check.proofs.selections.is_return.Goals as goal

pub returns-in-Return : goal.returns-in-Return
returns-in-Return c = λ found. return_by _ _ _ c.in-Return.is
