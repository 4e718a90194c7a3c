-- What a test leaves of a range.
use Rattle.std.proofs.Common.{◌≡◌, ◌∙◌, ap, sym, refl, ℕ, zero, suc, ◌+◌, ◌-◌, ◌^◌, ◌<◌, ◌≤◌, ◌&&◌, Bool, true, false, cond, List, [], ◌∷◌, arith, inl, inr, Some}
use Rattle.std.specs.Prelude.{filter}
use Rattle.std.specs.List.{range_with_len}
use Rattle.std.proofs.Math.Nat.{eq-or-lt_of_le}
use Rattle.st_expression.specs.declared.expression.Expression.{Expression}
use Rattle.causes_query.specs.declared.source.InputSource.{InputSource}
use Rattle.std.specs.Int.{bit_at}
use Rattle.std.proofs.Math.Pow.{pow_mono}
use Rattle.scan_signals.specs.WordLaws.{words_allowed}
use Rattle.search_tree.specs.Looks.{Search, numbers, rest, span}
use Rattle.search_tree.specs.Trees.{IsPlan}
use Rattle.search_tree.specs.declared.walk.Plan.{Plan}
use Rattle.search_tree.proofs.WalkLaws.{span-is}
use Rattle.assume_search.specs.Assumed.{assuming, counts}
use Rattle.assume_possible.specs.Possible.{IsImpossible, IsImpossibleInBoth, IsPossible, IsPossibleInBoth, every_search}
use Rattle.assume_possible.specs.declared.every.Every.{Every}

none_in : (p : ℕ → Bool) (a n : ℕ) → filter p (range_with_len a n) ≡ [] → (i : ℕ) → a ≤ i → i < a + n → p i ≡ false
none_in p a zero h i low high = absurd (omega (arith, low, high))
none_in p a (suc n) h i low high = by (p a) refl h (λ none more. none_in p (a + 1) n none i (omega (arith, more)) (omega (arith, high)))
  where
    left : List ℕ
    left = filter p (range_with_len (a + 1) n)

    by : (t : Bool) → p a ≡ t → cond t (a ∷ left) left ≡ [] → (left ≡ [] → a < i → p i ≡ false) → p i ≡ false
    by true e none further = cc
    by false e none further = elim (eq-or-lt_of_le low) [
      | inl same ↦ ap p (sym same) ∙ e
      | inr more ↦ further none more
    ]

some_in : (p : ℕ → Bool) (a n m : ℕ) (ms : List ℕ) → filter p (range_with_len a n) ≡ m ∷ ms → (i : ℕ) × (a ≤ i) × (i < a + n) × (p i ≡ true)
some_in p a zero m ms h = cc
some_in p a (suc n) m ms h = by (p a) refl h (λ some. some_in p (a + 1) n m ms some)
  where
    left : List ℕ
    left = filter p (range_with_len (a + 1) n)

    by : (t : Bool) → p a ≡ t → cond t (a ∷ left) left ≡ m ∷ ms → (left ≡ m ∷ ms → (i : ℕ) × (a + 1 ≤ i) × (i < a + 1 + n) × (p i ≡ true))
        → (i : ℕ) × (a ≤ i) × (i < a + suc n) × (p i ≡ true)
    by true e some further = (a, omega arith, omega arith, e)
    by false e some further =
        let more = further some in
        (more.0, omega (arith, more.1), omega (arith, more.2), more.3)

left_of_both : (a : Bool) → (a && true) ≡ a
left_of_both true = refl
left_of_both false = refl

-- what is searched
abbrev searched : Expression → List InputSource → Every → Search
searched assumed sources e = assuming (Some assumed) sources (every_search e)

numbers_are : (assumed : Expression) (sources : List InputSource) (e : Every) (bits : ℕ) → e.tail + e.top ≡ bits → numbers (searched assumed sources e) - 0 ≡ 2 ^ bits
numbers_are assumed sources e bits same =
    let size : numbers (searched assumed sources e) ≡ 2 ^ (e.tail + e.top) = span-is (searched assumed sources e) e.top in
    omega (arith, size, ap (λ n. 2 ^ n) same)

pub found : (assumed : Expression) (sources : List InputSource) (e : Every) (bits m : ℕ) (ms : List ℕ) → e.tail + e.top ≡ bits
    → rest (assuming (Some assumed) sources (every_search e)) 0 ≡ m ∷ ms → IsPossible assumed sources bits
found assumed sources e bits m ms same h =
    let p : ℕ → Bool = λ n. counts (Some assumed) sources n && true in
    let one = some_in p 0 (2 ^ bits) m ms (ap (λ n. filter p (range_with_len 0 n)) (sym (numbers_are assumed sources e bits same)) ∙ h) in
    (one.0, omega (arith, one.2), sym (left_of_both (counts (Some assumed) sources one.0)) ∙ one.3)

pub not_found : (assumed : Expression) (sources : List InputSource) (e : Every) (bits : ℕ) → e.tail + e.top ≡ bits
    → rest (assuming (Some assumed) sources (every_search e)) 0 ≡ [] → IsImpossible assumed sources bits
not_found assumed sources e bits same h = λ n low.
    let p : ℕ → Bool = λ n. counts (Some assumed) sources n && true in
    sym (left_of_both (counts (Some assumed) sources n))
    ∙ none_in p 0 (2 ^ bits) (ap (λ n. filter p (range_with_len 0 n)) (sym (numbers_are assumed sources e bits same)) ∙ h) n (omega arith) (omega (arith, low))

pub planned : (assumed : Expression) (sources : List InputSource) (e : Every) (plan : Plan) → plan.tail ≡ e.tail → plan.top ≡ e.top → plan.first ≡ 0
    → e.tail ≤ 6 → e.tail + e.top ≤ 40 → IsPlan plan (assuming (Some assumed) sources (every_search e))
planned assumed sources e plan t u f narrow few = record { tail = t; top = u; first = f; narrow = narrow; few = few; within = omega arith }

-- ---- the search with what is assumed of two programs

abbrev pub searched_in_both : Expression → List InputSource → Expression → List InputSource → Every → Search
searched_in_both old old_sources new new_sources e = assuming (Some old) old_sources (searched new new_sources e)

numbers_in_both : (old new : Expression) (old_sources new_sources : List InputSource) (e : Every) (bits : ℕ) → e.tail + e.top ≡ bits
    → numbers (searched_in_both old old_sources new new_sources e) - 0 ≡ 2 ^ bits
numbers_in_both old new old_sources new_sources e bits same =
    let size : numbers (searched_in_both old old_sources new new_sources e) ≡ 2 ^ (e.tail + e.top) = span-is (searched_in_both old old_sources new new_sources e) e.top in
    omega (arith, size, ap (λ n. 2 ^ n) same)

both_true : (a b : Bool) → (a && (b && true)) ≡ true → (a ≡ true) × (b ≡ true)
both_true true true h = (refl, refl)
both_true true false h = cc
both_true false b h = cc

pub found_in_both : (old new : Expression) (old_sources new_sources : List InputSource) (e : Every) (bits m : ℕ) (ms : List ℕ) → e.tail + e.top ≡ bits
    → rest (searched_in_both old old_sources new new_sources e) 0 ≡ m ∷ ms → IsPossibleInBoth old old_sources new new_sources bits
found_in_both old new old_sources new_sources e bits m ms same h =
    let p : ℕ → Bool = λ n. counts (Some old) old_sources n && (counts (Some new) new_sources n && true) in
    let one = some_in p 0 (2 ^ bits) m ms (ap (λ n. filter p (range_with_len 0 n)) (sym (numbers_in_both old new old_sources new_sources e bits same)) ∙ h) in
    let both = both_true (counts (Some old) old_sources one.0) (counts (Some new) new_sources one.0) one.3 in
    (one.0, omega (arith, one.2), both.0, both.1)

pub not_found_in_both : (old new : Expression) (old_sources new_sources : List InputSource) (e : Every) (bits : ℕ) → e.tail + e.top ≡ bits
    → rest (searched_in_both old old_sources new new_sources e) 0 ≡ [] → IsImpossibleInBoth old old_sources new new_sources bits
not_found_in_both old new old_sources new_sources e bits same h = λ n low.
    let p : ℕ → Bool = λ n. counts (Some old) old_sources n && (counts (Some new) new_sources n && true) in
    ap (λ b. counts (Some old) old_sources n && b) (sym (left_of_both (counts (Some new) new_sources n)))
    ∙ none_in p 0 (2 ^ bits) (ap (λ n. filter p (range_with_len 0 n)) (sym (numbers_in_both old new old_sources new_sources e bits same)) ∙ h) n (omega arith) (omega (arith, low))

pub planned_in_both : (old new : Expression) (old_sources new_sources : List InputSource) (e : Every) (plan : Plan) → plan.tail ≡ e.tail → plan.top ≡ e.top → plan.first ≡ 0
    → e.tail ≤ 6 → e.tail + e.top ≤ 40 → IsPlan plan (searched_in_both old old_sources new new_sources e)
planned_in_both old new old_sources new_sources e plan t u f narrow few = record { tail = t; top = u; first = f; narrow = narrow; few = few; within = omega arith }

-- each place of a word of ones
pub all_ones : (e : Every) (j : ℕ) → e.tail ≤ 6 → j < span (every_search e) 0 → bit_at 18446744073709551615 j ≡ 1
all_ones e j narrow less =
    let none : e.tail + 0 ≡ e.tail = omega arith in
    let size : span (every_search e) 0 ≡ 2 ^ e.tail = span-is (every_search e) 0 ∙ ap (λ n. 2 ^ n) none in
    let small : 2 ^ e.tail ≤ 2 ^ 6 = pow_mono {j = 6} narrow in
    words_allowed.known_allows true j (omega (arith, less, size, small))
