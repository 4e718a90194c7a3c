use Rattle.std.proofs.Common.{◌≡◌, ◌<◌, ℕ, [], length, slice_index_or}
use Rattle.diagram_program.specs.declared.geometry.TheConstants.{COLUMNS}
use Rattle.clp_meaning.specs.Reach.{AreReached}
use Rattle.clp_meaning.proofs.power.power_of.Given as goal

abbrev pub invariant-loop-column : goal.invariant-loop-column
invariant-loop-column l = ((c : ℕ) → c < l.column → AreReached l.reading l.elements c (slice_index_or l.power c [])) × (length l.power ≡ COLUMNS)
