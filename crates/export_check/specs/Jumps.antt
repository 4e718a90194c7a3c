-- Private: the rungs that jumps pass over.
use Rattle.std.specs.Prelude.{◌≡◌, ℕ, ◌+◌, ◌<◌, Bool, false, ◌&&◌, ◌||◌, ◌⊎◌, nat_lt, List, [], ◌∷◌, Option, Some, None, slice_get}
use Rattle.export_check.specs.declared.jumps.Jump.{Jump}

-- The rung is between that of the jump and its target.
abbrev pub passes : (rung : ℕ) → Jump → Bool
passes rung jump = nat_lt jump.rung rung && nat_lt rung jump.target

-- There is such a jump, and it passes over the rung.
abbrev pub passes_there : (rung : ℕ) → Option Jump → Bool
passes_there rung found = elim found [ Some jump ↦ passes rung jump | None ↦ false ]

-- Some jump whose flag is on passes over the rung.
unfoldable pub is_over : List Jump → (flags : List Bool) → (rung : ℕ) → Bool
is_over [] flags rung = false
is_over (jump ∷ jumps) [] rung = false
is_over (jump ∷ jumps) (on ∷ flags) rung = (on && passes rung jump) || is_over jumps flags rung

-- The jump doesn't pass over the rung.
abbrev pub IsAside : (rung : ℕ) → Jump → Type 0
IsAside rung jump = passes rung jump ≡ false

-- The jump passes over both rungs, or over neither.
abbrev pub IsAlike : (rung other : ℕ) → Jump → Type 0
IsAlike rung other jump = passes rung jump ≡ passes other jump

-- The jump of a rung is that with this number, and goes down.
pub record IsNumbered (jumps : List Jump) (rung number target : ℕ) : Type 0 where
  pub jump : Jump
  pub is : slice_get jumps number ≡ Some jump
  pub from : jump.rung ≡ rung
  pub to : jump.target ≡ target
  pub down : rung < target

-- So many jumps are above the next rung, where `number` are above this one: a return isn't among them.
unfoldable pub Counts : List Jump → (rungs rung number next : ℕ) → Option (ℕ × ℕ × ℕ) → Type 0
Counts jumps rungs rung number next None = next ≡ number
Counts jumps rungs rung number next (Some jump) =
    (jump.2 ≡ rungs × next ≡ number) ⊎ ((jump.2 ≡ rungs → ⊥) × (next ≡ number + 1) × IsNumbered jumps rung number jump.2)
