-- Runs from the start of a list.
use Rattle.std.proofs.Common.{◌≡◌, ℕ, Bool, true, false, ◌+◌, ◌==◌, cond, ◌&&◌, suc, List, [], ◌∷◌, length, refl, ◌∙◌, arith}
use Rattle.std.specs.List.{list_all, prefix_len}
use Rattle.std.proofs.lemmas.Bool.{ne_eqb}
use Rattle.std.proofs.lemmas.Bool.Decides.{nat_tests}

next_same : (m n : ℕ) → (1 + m == suc n) ≡ (m == n)
next_same m n = grind (arith, nat_tests)

-- the run of what passes is the whole list where all pass
pub whole_run : {X : Type 0} (p : X → Bool) (xs : List X) → (prefix_len p xs == length xs) ≡ list_all p xs
whole_run p [] = refl
whole_run p (x ∷ xs) =
    elim (p x) as (λ t. (cond t (1 + prefix_len p xs) 0 == suc (length xs)) ≡ (t && list_all p xs)) [
      | true ↦ next_same (prefix_len p xs) (length xs) ∙ whole_run p xs
      | false ↦ ne_eqb 0 (suc (length xs)) (λ e. omega (arith, e))
    ]
