use Rattle.std.proofs.Common.{ap, not}
use Rattle.export_power.proofs.Trees.{again, operand_is}
use Rattle.export_power.proofs.following.before_inverse.Goals as goal

pub returns-in-Operand : goal.returns-in-Operand
returns-in-Operand c = again _ _ _ _ _ (λ s. ap not (operand_is _ _ c.in-Operand.is s)) c.before_contact.ensures
