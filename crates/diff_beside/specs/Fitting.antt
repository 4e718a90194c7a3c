-- Private: declarations in which what a program declares stands under other numbers.
use Rattle.std.specs.Prelude.{◌≡◌, ℕ, ◌+◌, ◌<◌, List, length, slice_get, slice_index_or}
use Rattle.diagram_declarations.specs.declared.decls.Instance.{Instance}
use Rattle.diagram_declarations.specs.declared.decls.Var.{Var}
use Rattle.diagram_declarations.specs.Decls.{Declared, is_input_at}
use Rattle.diagram_program.specs.Program.{has_second}
use Rattle.diff_beside.specs.Moving.{Shift}

-- Each variable is declared there, as an input just where it is one.
abbrev pub AreVarsIn : List Var → List ℕ → List Var → Type 0
AreVarsIn vars numbers there = (v : ℕ) → v < length vars
    → (slice_index_or numbers v 0 < length there) × (is_input_at (slice_get there (slice_index_or numbers v 0)) ≡ is_input_at (slice_get vars v))

-- Each instance is declared there, with a second input just where it has one.
abbrev pub AreInstancesIn : List Instance → ℕ → List Instance → Type 0
AreInstancesIn instances before there = (i : ℕ) → i < length instances
    → (before + i < length there) × (has_second (slice_get there (before + i)) ≡ has_second (slice_get instances i))

pub record FitIn (s : Shift) (part there : Declared) : Type 0 where
  pub vars : AreVarsIn part.vars s.vars there.vars
  pub instances : AreInstancesIn part.instances s.instances there.instances
