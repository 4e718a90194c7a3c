use Rattle.std.proofs.Common.{refl}
use Rattle.network_power.proofs.Routes.{ends_same}
use Rattle.network_power.proofs.leads.is_one_left.Goals as goal

pub returns-then-is_end-2 : goal.returns-then-is_end-2
returns-then-is_end-2 c = λ found. ends_same _ _ _ (c.if-is_end.ensures refl) (c.if-is_end-2.ensures refl)
