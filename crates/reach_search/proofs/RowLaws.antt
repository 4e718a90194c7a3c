-- A list cut into rows: how many there are, one at its number, and one more at the end.
use Rattle.std.proofs.Common.{◌≡◌, ◌<◌, ◌≤◌, ◌++◌, ◌+◌, ◌*◌, ℕ, zero, suc, List, [], ◌∷◌, length, get_or, take, drop, refl, ap, ◌∙◌, arith, length-drop}
use Rattle.std.proofs.lemmas.List.{take-append-le, drop-append-le, take_all, drop-drop}
use Rattle.std.proofs.Math.Nat.{mul-le-mul_left}
use Rattle.reach_search.specs.Tables.{rows_of}

pub length-rows_of : {A : Type 0} (width count : ℕ) (items : List A) → length (rows_of width count items) ≡ count
length-rows_of width zero items = refl
length-rows_of width (suc count) items = ap suc (length-rows_of width count (drop width items))

-- one more row
pub rows_of-more : {A : Type 0} (width count : ℕ) (items row : List A) → length items ≡ count * width → length row ≡ width
    → rows_of width (suc count) (items ++ row) ≡ rows_of width count items ++ row ∷ []
rows_of-more width zero [] row long e = ap (λ r. r ∷ []) (take_all width row (omega arith))
rows_of-more width zero (item ∷ items) row long e = absurd (omega arith)
rows_of-more width (suc count) items row long e =
    let le : width ≤ length items = omega arith in
    let rest : length (drop width items) ≡ count * width = omega (arith, length-drop width items) in
    let one : take width (items ++ row) ≡ take width items = take-append-le width items row le in
    let more : drop width (items ++ row) ≡ drop width items ++ row = drop-append-le width items row le in
    rw (one, more) (ap (λ r. take width items ∷ r) (rows_of-more width count (drop width items) row rest e))

-- the row of a number
pub rows_of-at : {A : Type 0} (width count : ℕ) (items : List A) (number : ℕ) → number < count
    → get_or (rows_of width count items) number [] ≡ take width (drop (number * width) items)
rows_of-at width zero items number lt = absurd (omega arith)
rows_of-at width (suc count) items zero lt = let none : 0 * width ≡ 0 = omega arith in rw none refl
rows_of-at width (suc count) items (suc number) lt =
    rows_of-at width count (drop width items) number (omega arith)
    ∙ ap (λ x. take width x) (drop-drop (number * width) width items ∙ ap (λ n. drop n items) (omega arith))

-- it ends within the rows that are counted
pub row_ends : (width count number : ℕ) → number < count → number * width + width ≤ count * width
row_ends width count number lt = let more : suc number ≤ count = omega arith in omega (arith, mul-le-mul_left width more)
