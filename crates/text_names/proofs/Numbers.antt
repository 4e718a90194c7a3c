-- What is made of the numbers from 0 on, one after the other.
use Rattle.std.proofs.Common.{◌≡◌, ◌∙◌, ◌+◌, ◌++◌, ◌∷◌, [], ℕ, zero, suc, List, ap, arith, map, refl}
use Rattle.std.specs.List.{range_with_len}
use Rattle.std.proofs.lemmas.List.{map-append}

-- one number more behind them
behind : (a n : ℕ) → range_with_len a (suc n) ≡ range_with_len a n ++ (a + n) ∷ []
behind a zero = let same : a ≡ a + 0 = omega arith in ap (λ n. n ∷ []) same
behind a (suc n) =
    let moved : (a + 1) + n ≡ a + suc n = omega arith in
    ap (λ xs. a ∷ xs) (behind (a + 1) n ∙ ap (λ m. range_with_len (a + 1) n ++ m ∷ []) moved)

pub one_more : {A : Type 0} (f : ℕ → A) (n : ℕ) → map f (range_with_len 0 (n + 1)) ≡ map f (range_with_len 0 n) ++ f n ∷ []
one_more f n =
    let next : n + 1 ≡ suc n = omega arith in
    let here : 0 + n ≡ n = omega arith in
    ap (λ m. map f (range_with_len 0 m)) next ∙ ap (map f) (behind 0 n ∙ ap (λ m. range_with_len 0 n ++ m ∷ []) here) ∙ map-append f (range_with_len 0 n) (n ∷ [])
