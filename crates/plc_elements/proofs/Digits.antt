-- A word as long as its digits at the start is digits alone.
use Rattle.std.specs.List.{list_all, prefix_len}
use Rattle.std.proofs.Common.{Bool, true, false, cond, ◌+◌, ◌≡◌, ℕ, ◌≤◌, List, [], ◌∷◌, length, refl, arith}

digits_at : (p : ℕ → Bool) (x : ℕ) (xs : List ℕ) (b : Bool) → p x ≡ b → (length xs ≤ prefix_len p xs → list_all p xs ≡ true)
    → length (x ∷ xs) ≤ cond b (1 + prefix_len p xs) 0 → list_all p (x ∷ xs) ≡ true
digits_at p x xs true e more h = rw e (more (omega (arith, h)))
digits_at p x xs false e more h = absurd (omega (arith, h))

pub all_digits : (p : ℕ → Bool) (xs : List ℕ) → length xs ≤ prefix_len p xs → list_all p xs ≡ true
all_digits p [] h = refl
all_digits p (x ∷ xs) h = digits_at p x xs (p x) refl (all_digits p xs) h
