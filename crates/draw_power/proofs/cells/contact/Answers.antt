use Rattle.std.proofs.Common.{refl}
use Rattle.draw_power.proofs.Flow.{through_cell}
use Rattle.draw_power.proofs.cells.contact.Goals as goal

pub returns-then-is_contact : goal.returns-then-is_contact
returns-then-is_contact c =
    through_cell _ _ _ _ _ _ c.in_ok-cell.ensures.cell c.in_ok-cell.ensures.fed c.in_ok-cell.ensures.row c.in_ok-cell.ensures.column (c.if-is_contact.ensures refl) c.behind.ensures
