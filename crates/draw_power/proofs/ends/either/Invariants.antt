use Rattle.std.proofs.Common.{◌≡◌, ◌<◌, ◌||◌, ℕ, length}
use Rattle.diagram_program.specs.declared.geometry.TheConstants.{ROWS}
use Rattle.draw_power.specs.Power.{has_row}
use Rattle.draw_power.proofs.ends.either.Given as goal

abbrev pub invariant-loop-row : goal.invariant-loop-row
invariant-loop-row l = record { each : (q : ℕ) → q < l.row → has_row l.rows q ≡ (has_row l.first q || has_row l.second q); long : length l.rows ≡ ROWS }
