use Rattle.std.proofs.Common.{refl}
use Rattle.network_check.proofs.Statements.{shows_constant, shows_inverse}
use Rattle.network_check.proofs.powers.is_inverse.Goals as goal

pub returns-in-Not : goal.returns-in-Not
returns-in-Not c = λ found. shows_inverse _ _ _ _ _ _ c.in-Not.is c.deref.ensures (c.is_fed.ensures found)

pub returns-in-Constant : goal.returns-in-Constant
returns-in-Constant c = λ found. shows_constant _ _ _ _ c.in-Constant.on c.in-Constant.is refl (c.is_fed-in-Constant.ensures found)
