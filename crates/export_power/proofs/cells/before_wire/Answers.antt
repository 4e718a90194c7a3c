use Rattle.std.proofs.Common.{refl}
use Rattle.export_power.proofs.Back.{through_open}
use Rattle.export_power.proofs.cells.before_wire.Goals as goal

pub returns-then-passes_on : goal.returns-then-passes_on
returns-then-passes_on c =
    through_open _ _ _ _ _ c.in_ok-place.ensures c.ends_before.ensures c.cell_at.ensures (c.if-passes_on.ensures refl)
