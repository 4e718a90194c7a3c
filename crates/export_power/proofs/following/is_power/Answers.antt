use Rattle.std.proofs.Common.{eqb-true}
use Rattle.export_power.proofs.Back.{to_rail}
use Rattle.export_power.proofs.following.is_power.Goals as goal

pub returns-in-Some : goal.returns-in-Some
returns-in-Some c = λ found. to_rail _ _ _ _ (eqb-true _ _ found) c.in-Some.ensures
