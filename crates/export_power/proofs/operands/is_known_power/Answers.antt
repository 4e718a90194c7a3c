use Rattle.std.proofs.Common.{refl}
use Rattle.export_power.proofs.Back.{known_is}
use Rattle.export_power.proofs.operands.is_known_power.Goals as goal

pub returns-then-is_power_at : goal.returns-then-is_power_at
returns-then-is_power_at c =
    λ found. known_is _ _ _ _ _ _ c.in-Variable.is c.loop-known-test.true c.if-known-variable.true (c.if-is_power_at.ensures refl)
