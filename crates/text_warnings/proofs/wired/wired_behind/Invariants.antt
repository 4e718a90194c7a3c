use Rattle.std.proofs.Common.{◌≡◌, ◌↔◌, ◌+◌, ◌<◌, ℕ, IsTrue, false, length, slice_index_or}
use Rattle.diagram_program.specs.declared.geometry.TheConstants.{ROWS}
use Rattle.text_warnings.specs.Ways.{IsWired}
use Rattle.text_warnings.proofs.wired.wired_behind.Given as goal

abbrev pub invariant-loop-row : goal.invariant-loop-row
invariant-loop-row l =
    ((row : ℕ) → row < l.row → IsTrue (slice_index_or l.behind row false) ↔ IsWired l.program l.rung (l.column + 1) row)
    × (length l.behind ≡ ROWS)
