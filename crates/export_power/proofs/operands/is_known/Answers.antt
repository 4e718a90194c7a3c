use Rattle.std.proofs.Common.{refl}
use Rattle.export_power.proofs.Back.{known_is, same_means}
use Rattle.export_power.proofs.operands.is_known.Goals as goal

pub returns-then-is_same_meaning : goal.returns-then-is_same_meaning
returns-then-is_same_meaning c =
    λ found. known_is _ _ _ _ _ _ c.in-Variable.is c.loop-known-test.true c.if-known-variable.true (same_means _ _ _ (c.if-is_same_meaning.ensures refl))
