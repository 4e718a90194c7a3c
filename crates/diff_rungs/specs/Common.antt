-- What is left alike, pair by pair.
use Rattle.std.specs.Prelude.{◌≡◌, ℕ, Bool, true, List, Some, slice_get}
use Rattle.diagram_program.specs.Program.{Drawing}
use Rattle.diff_matching.specs.declared.matching.Pair.{Pair}
use Rattle.diff_matching.specs.Matching.{Matching}
use Rattle.diff_cases.specs.declared.target.Target.{Target}
use Rattle.diff_cases.specs.Alike.{LeavesAlike}

-- One scan of each program, from any states that agree, leaves each pair alike that is marked.
abbrev pub AreLeftAlike : (Pair → Target) → List Pair → List Bool → Matching → Drawing → Drawing → Type 0
AreLeftAlike target pairs marks m p q = (n : ℕ) (x : Pair) → slice_get pairs n ≡ Some x → slice_get marks n ≡ Some true → LeavesAlike m p q (target x)
