use Rattle.std.proofs.Common.{ap, not}
use Rattle.network_power.proofs.Routes.{leads_as, onward}
use Rattle.network_power.proofs.Trees.{operand_is}
use Rattle.network_power.proofs.following.before_inverse.Goals as goal

pub returns-in-Operand : goal.returns-in-Operand
returns-in-Operand c =
    onward c.before_first.result _ _ (λ way leads. leads_as _ _ _ _ _ _ (λ env. ap not (operand_is _ _ c.in-Operand.is env)) leads) c.before_first.ensures
