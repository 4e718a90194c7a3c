use Rattle.std.proofs.Common.{◌≡◌, ◌<◌, ℕ}
use Rattle.diagram_program.specs.Program.{feeds}
use Rattle.draw_power.specs.Power.{has_row}
use Rattle.draw_power.proofs.cells.is_fed.Given as goal

abbrev pub invariant-loop-row : goal.invariant-loop-row
invariant-loop-row l = (q : ℕ) → q < l.row → feeds l.net.program.now l.net.rung l.at.row l.at.from.column q ≡ has_row l.at.from.rows q
