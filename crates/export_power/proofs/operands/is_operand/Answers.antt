use Rattle.std.proofs.Common.{◌∙◌, sym}
use Rattle.export_power.proofs.Trees.{operand_is}
use Rattle.export_power.proofs.operands.is_operand.Goals as goal

pub returns-in-Operand : goal.returns-in-Operand
returns-in-Operand c =
    λ found k now f s sees. sym (operand_is _ _ c.in-Operand.is s) ∙ (c.stands_for.ensures found).stood k now f s sees
