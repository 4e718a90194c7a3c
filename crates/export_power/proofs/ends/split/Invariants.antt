use Rattle.std.proofs.Common.{◌≡◌, ◌<◌, ◌||◌, ℕ, length}
use Rattle.diagram_program.specs.declared.geometry.TheConstants.{ROWS}
use Rattle.draw_power.specs.Power.{has_row}
use Rattle.export_power.proofs.ends.split.Given as goal

abbrev pub invariant-loop-at : goal.invariant-loop-at
invariant-loop-at l = record {
  each : (q : ℕ) → q < l.at → has_row l.ends.rows q ≡ (has_row l.upper q || has_row l.lower q);
  upper_long : length l.upper ≡ ROWS;
  lower_long : length l.lower ≡ ROWS;
}
