use Rattle.std.proofs.Common.{refl}
use Rattle.network_check.proofs.Statements.{return_does}
use Rattle.network_check.proofs.doing.behind_return.Goals as goal

pub returns-then-shows : goal.returns-then-shows
returns-then-shows c = return_does _ _ _ _ _ _ c.in_ok-condition.ensures (c.if-shows.ensures refl) (c.if-is_return.ensures refl)
