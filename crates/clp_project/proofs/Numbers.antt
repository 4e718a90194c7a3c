-- A number grows with each digit that is read.
use Rattle.std.proofs.Common.{◌≡◌, ℕ, ◌+◌, ◌-◌, ◌*◌, ◌<◌, ◌≤◌, List, [], ◌∷◌, length, drop, get_or, add-one, drop-cons, ap, arith, refl}
use Rattle.std.specs.List.{fold}

-- the number, with n before its digits
abbrev pub value_from : ℕ → List ℕ → ℕ
value_from n digits = fold (λ m b. m * 10 + (b - 48)) n digits

grows : (n : ℕ) (bs : List ℕ) → n ≤ value_from n bs
grows n [] = omega arith
grows n (b ∷ bs) = omega (arith, grows (n * 10 + (b - 48)) bs)

pub one_more : (n i : ℕ) (bs : List ℕ) → i < length bs → value_from n (drop i bs) ≡ value_from (n * 10 + (get_or bs i 0 - 48)) (drop (i + 1) bs)
one_more n i bs h =
    let e : drop i bs ≡ get_or bs i 0 ∷ drop (i + 1) bs = rw (add-one, drop-cons bs i 0) refl in
    ap (value_from n) e

pub at_least : (n i : ℕ) (bs : List ℕ) → i < length bs → n * 10 + (get_or bs i 0 - 48) ≤ value_from n (drop i bs)
at_least n i bs h = rw (one_more n i bs h) (grows (n * 10 + (get_or bs i 0 - 48)) (drop (i + 1) bs))
