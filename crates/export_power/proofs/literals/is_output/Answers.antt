use Rattle.std.proofs.Common.{◌∙◌, ap, sym}
use Rattle.diagram_program.specs.declared.cell.Cell.TheVariants.{Block}
use Rattle.st_statements.specs.Run.{seen}
use Rattle.export_power.proofs.Back.{called_shows}
use Rattle.export_power.proofs.literals.is_output.Goals as goal

pub returns-then-inst-number : goal.returns-then-inst-number
returns-then-inst-number c =
    λ found. called_shows _ _ _ _ _ c.in-Some.ensures (ap Block (sym c.if-inst-number.true) ∙ c.in-Block-Output.ensures)
    (λ s. ap (seen s) c.in-Block-Output.is-1) (sym c.is_called.ensures ∙ found)
