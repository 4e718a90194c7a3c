use Rattle.std.proofs.Common.{◌≡◌, ◌<◌, ℕ, None}
use Rattle.diagram_program.specs.Program.{cell_in}
use Rattle.diff_matching.specs.Names.{edge_in, owner_with}
use Rattle.diff_matching.proofs.owner.owner_of.Given as goal

abbrev pub invariant-loop-place : goal.invariant-loop-place
invariant-loop-place l = (k : ℕ) → k < l.place → owner_with l.number (edge_in (cell_in l.program k)) ≡ None
