use Rattle.std.proofs.Common.{◌≡◌, ◌↔◌, ◌<◌, ℕ, false, IsTrue, length, slice_index_or}
use Rattle.diagram_program.specs.declared.geometry.TheConstants.{ROWS}
use Rattle.clp_meaning.specs.Sheets.{Reached}
use Rattle.clp_meaning.proofs.power.reached_in.Given as goal

abbrev pub invariant-loop-row : goal.invariant-loop-row
invariant-loop-row l =
    ((k : ℕ) → k < l.row → IsTrue (slice_index_or l.reached k false) ↔ Reached l.reading l.elements l.column k)
    × (length l.reached ≡ ROWS)
