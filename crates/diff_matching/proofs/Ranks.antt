-- A memory is known by its owner and by how many of the owner come before it.
use Rattle.std.proofs.Common.{◌≡◌, ◌∙◌, ◌+◌, ◌<◌, ◌≤◌, ℕ, Bool, true, false, List, Option, Some, None, ap, arith, get_or, length, sym, take, cond, inl, inr}
use Rattle.std.specs.List.{count_by}
use Rattle.std.proofs.lemmas.Bool.{cases_lt}
use Rattle.std.proofs.lemmas.List.{take-take}
use Rattle.std.proofs.lemmas.List.Sums.{count_by_more_yes, sum_by-take-le}
use Rattle.std.proofs.lemmas.Bool.Decides.{nat_tests}
use Rattle.std.proofs.lemmas.Option.{get_or_from_slice_get, slice_get_within, slice_get-get_or}
use Rattle.diff_matching.specs.declared.owner.Owner.{Owner}
use Rattle.diff_matching.specs.declared.owner.Owner.TheVariants.{Variable, Output, Coil}
use Rattle.diff_matching.specs.Names.{IsRanked, is_owner, rank}

pub itself : (of : Owner) → is_owner of (Some of) ≡ true
itself (Variable a) = grind (arith, nat_tests)
itself (Output a) = grind (arith, nat_tests)
itself (Coil a) = grind (arith, nat_tests)

pub only_itself : (of : Owner) (other : Option Owner) → is_owner of other ≡ true → other ≡ Some of
only_itself (Variable a) (Some (Variable b)) h = let e : a ≡ b = grind (arith, nat_tests) in ap (λ n. Some (Variable n)) (sym e)
only_itself (Output a) (Some (Output b)) h = let e : a ≡ b = grind (arith, nat_tests) in ap (λ n. Some (Output n)) (sym e)
only_itself (Coil a) (Some (Coil b)) h = let e : a ≡ b = grind (arith, nat_tests) in ap (λ n. Some (Coil n)) (sym e)
only_itself of other h = cc

-- the count goes up at each memory of the owner
counted : {A : Type 0} (p : A → Bool) (xs : List A) (i j : ℕ) (d : A) → i < j → j ≤ length xs → p (get_or xs i d) ≡ true → count_by p (take i xs) < count_by p (take j xs)
counted p xs i j d less short is =
    let more = count_by_more_yes p xs i d (omega arith) is in
    let inside : take (i + 1) (take j xs) ≡ take (i + 1) xs = take-take (i + 1) j xs (omega arith) in
    let part = sum_by-take-le (λ x. cond (p x) 1 0) (take j xs) (i + 1) in
    let whole : count_by p (take (i + 1) xs) ≤ count_by p (take j xs) = rw inside at part in
    omega arith

pub ranked_once : (owners : List (Option Owner)) (of : Owner) (before i j : ℕ) → IsRanked owners of before i → IsRanked owners of before j → i < j → ⊥
ranked_once owners of before i j first second less =
    let short = slice_get_within owners j (Some of) second.0 in
    let here = get_or_from_slice_get owners i (Some of) None first.0 in
    let is : is_owner of (get_or owners i None) ≡ true = ap (is_owner of) here ∙ itself of in
    let up = counted (is_owner of) owners i j None less (omega arith) is in
    omega (arith, first.1, second.1)

pub ranked_here : (owners : List (Option Owner)) (of : Owner) (before n : ℕ) → n < length owners → is_owner of (get_or owners n None) ≡ true → rank owners of n ≡ before
    → IsRanked owners of before n
ranked_here owners of before n short is count = (slice_get-get_or owners n None short ∙ ap (λ o. Some o) (only_itself of (get_or owners n None) is), count)

pub other_here : (owners : List (Option Owner)) (of : Owner) (before n : ℕ) → is_owner of (get_or owners n None) ≡ false → IsRanked owners of before n → ⊥
other_here owners of before n not h =
    let is : is_owner of (get_or owners n None) ≡ true = ap (is_owner of) (get_or_from_slice_get owners n (Some of) None h.0) ∙ itself of in
    cc

pub one_ranked : (owners : List (Option Owner)) (of : Owner) (before m n : ℕ) → IsRanked owners of before m → IsRanked owners of before n → m ≡ n
one_ranked owners of before m n first second =
    let low : m < n → ⊥ = ranked_once owners of before m n first second in
    let high : n < m → ⊥ = ranked_once owners of before n m second first in
    elim (cases_lt m n) [ inl less ↦ absurd (low less) | inr more ↦ elim (cases_lt n m) [ inl less ↦ absurd (high less) | inr same ↦ omega arith ] ]
