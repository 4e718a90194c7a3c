use Rattle.std.proofs.Common.{◌∙◌, ap, refl, sym}
use Rattle.diagram_program.specs.Program.{is_block}
use Rattle.export_power.proofs.Back.{known_closed, literal_at}
use Rattle.export_power.proofs.literals.is_closed_where.Goals as goal

pub returns-then-is_known : goal.returns-then-is_known
returns-then-is_known c =
    λ found. known_closed _ _ _ _ c.if-on.true (ap is_block (sym c.cell_at-cell.ensures) ∙ c.if-is_contact.ensures refl) (c.if-is_known.ensures refl)

pub returns : goal.returns
returns c = λ found. literal_at _ _ _ _ c.cell_at-cell.ensures (c.is_literal.ensures found)
