-- Flags that are kept for numbers, one after the other.
use Rattle.std.proofs.Common.{◌≡◌, ◌+◌, ◌<◌, ◌≤◌, ℕ, List, Bool, false, sym, subst, arith, get_or, length, set, ◌↔◌, IsTrue, ⊎_elim}
use Rattle.std.proofs.lemmas.Bool.{cases_lt}
use Rattle.std.proofs.lemmas.Grind.{get_or-set_at}
use Rattle.std.proofs.lemmas.List.{get_or-set_other}

-- one value more of those that are kept
pub set_more : (Such : ℕ → Type 0) (xs : List Bool) (i : ℕ) (x : Bool) → i < length xs → IsTrue x ↔ Such i
    → ((k : ℕ) → k < i → IsTrue (get_or xs k false) ↔ Such k) → (k : ℕ) → k < i + 1 → IsTrue (get_or (set xs i x) k false) ↔ Such k
set_more Such xs i x long here before k h = ⊎_elim
    (λ (l : k < i). rw (get_or-set_other xs i k x false (λ e. omega (arith, l, e))) (before k l))
    (λ (l : i ≤ k). let e : k ≡ i = omega (arith, l, h) in
    rw (get_or-set_at xs i k x false e long) (subst (λ j. IsTrue x ↔ Such j) (sym e) here))
    (cases_lt k i)
