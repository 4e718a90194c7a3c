-- How many jumps there are down to a rung.
use Rattle.std.proofs.Common.{◌≡◌, ℕ, ◌+◌, List, refl, sym, subst, inl, inr, Option, Some, None}
use Rattle.export_check.specs.declared.jumps.Jump.{Jump}
use Rattle.export_check.specs.Jumps.{Counts, IsNumbered}

module _ (jumps : List Jump) (rungs rung number : ℕ) where
  pub counts_none : (jump : Option (ℕ × ℕ × ℕ)) → jump ≡ None → Counts jumps rungs rung number number jump
  unfolding Counts
  counts_none jump is = subst (Counts jumps rungs rung number number) (sym is) refl

  pub counts_return : (jump : Option (ℕ × ℕ × ℕ)) (row column target : ℕ) → jump ≡ Some (row, column, target) → target ≡ rungs → Counts jumps rungs rung number number jump
  unfolding Counts
  counts_return jump row column target is last = subst (Counts jumps rungs rung number number) (sym is) (inl (last, refl))

  pub counts_jump : (jump : Option (ℕ × ℕ × ℕ)) (row column target : ℕ) → jump ≡ Some (row, column, target) → (target ≡ rungs → ⊥) → IsNumbered jumps rung number target
      → Counts jumps rungs rung number (number + 1) jump
  unfolding Counts
  counts_jump jump row column target is other numbered = subst (Counts jumps rungs rung number (number + 1)) (sym is) (inr (other, refl, numbered))
