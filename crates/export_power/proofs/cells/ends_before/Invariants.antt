use Rattle.std.proofs.Common.{◌≡◌, ◌/◌, ◌%◌, ◌<◌, ℕ, length}
use Rattle.diagram_program.specs.declared.geometry.TheConstants.{ROWS}
use Rattle.diagram_program.specs.Program.{feeds}
use Rattle.draw_power.specs.Power.{has_row}
use Rattle.export_power.proofs.cells.ends_before.Given as goal

abbrev pub invariant-loop-row : goal.invariant-loop-row
invariant-loop-row l = record {
  each : (q : ℕ) → q < l.row → has_row l.rows q ≡ feeds l.program l.rung (l.place % ROWS) (l.place / ROWS) q;
  long : length l.rows ≡ ROWS;
}
