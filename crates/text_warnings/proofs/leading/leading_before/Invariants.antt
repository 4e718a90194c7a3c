use Rattle.std.proofs.Common.{◌≡◌, ◌↔◌, ◌+◌, ◌-◌, ◌<◌, ℕ, IsTrue, false, length, slice_index_or}
use Rattle.diagram_program.specs.declared.geometry.TheConstants.{COLUMNS, ROWS}
use Rattle.text_warnings.specs.Routes.{HasRoute}
use Rattle.text_warnings.proofs.leading.leading_before.Given as goal

abbrev pub invariant-loop-from : goal.invariant-loop-from
invariant-loop-from l =
    ((row : ℕ) → row < l.from → IsTrue (slice_index_or l.leading row false) ↔ HasRoute l.program l.rung row (COLUMNS - (l.count + 1 + 1)))
    × (length l.leading ≡ ROWS)
