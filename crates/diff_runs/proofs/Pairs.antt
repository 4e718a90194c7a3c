-- Lists of pairs in which no number is in two of them.
use Rattle.std.proofs.Common.{◌≡◌, ◌∙◌, ap, arith, false, get_or, inl, inr, refl, slice_get, suc, sym, true, zero, ℕ, ◌≢◌, ◌⊎◌, Bool, List, [], ◌∷◌, Some, Contains, cond}
use Rattle.std.specs.Prelude.{◌==◌}
use Rattle.std.specs.List.{AllPairs}
use Rattle.std.proofs.lemmas.Bool.{cases_Bool, cases_lt, cond-false, cond-true, eq-eqb, eqb-true}
use Rattle.std.proofs.lemmas.Option.{get_or_from_slice_get, slice_get-get_or, slice_get_within}
use Rattle.diff_matching.specs.declared.matching.Pair.{Pair}

module _ {A : Type 0} where
  -- what a list contains is at a place of it
  pub found_at : (xs : List A) (x : A) (h : Contains xs x) → slice_get xs h.0 ≡ Some x
  found_at xs x h = slice_get-get_or xs h.0 x h.1 ∙ ap (λ (y : A). Some y) h.2

  pub contained : (xs : List A) (k : ℕ) (x : A) → slice_get xs k ≡ Some x → Contains xs x
  contained xs k x is = (k, slice_get_within xs k x is, get_or_from_slice_get xs k x x is)

  first_in : (x : A) (xs : List A) → Contains (x ∷ xs) x
  first_in x xs = contained (x ∷ xs) 0 x refl

  later_in : (x : A) (xs : List A) (y : A) → Contains xs y → Contains (x ∷ xs) y
  later_in x xs y h = contained (x ∷ xs) (suc h.0) y (found_at xs y h)

  split_at : (x : A) (xs : List A) (y : A) (k : ℕ) → slice_get (x ∷ xs) k ≡ Some y → (x ≡ y) ⊎ Contains xs y
  split_at x xs y zero is = inl cc
  split_at x xs y (suc k) is = inr (contained xs k y is)

  -- where no two of them have the same number, two with the same are one
  pub are_one : (f : A → ℕ) (xs : List A) → AllPairs (λ x y. f x ≢ f y) xs → (x y : A) → Contains xs x → Contains xs y → f x ≡ f y → x ≡ y
  are_one f xs apart x y here there same =
      let at_x : (d : A) → get_or xs here.0 d ≡ x = λ d. get_or_from_slice_get xs here.0 x d (found_at xs x here) in
      let at_y : (d : A) → get_or xs there.0 d ≡ y = λ d. get_or_from_slice_get xs there.0 y d (found_at xs y there) in
      elim (cases_lt here.0 there.0) [
        | inl less ↦ absurd (apart here.0 there.0 x less there.1 (ap f (at_x x) ∙ same ∙ sym (ap f (at_y x))))
        | inr not_less ↦ elim (cases_lt there.0 here.0) [
          | inl more ↦ absurd (apart there.0 here.0 x more here.1 (ap f (at_y x) ∙ sym same ∙ sym (ap f (at_x x))))
          | inr not_more ↦
              let even : here.0 ≡ there.0 = omega (arith, not_less, not_more) in
              sym (at_x x) ∙ ap (λ (i : ℕ). get_or xs i x) even ∙ at_y x
        ]
      ]

-- ---- the value of what is with a number

-- the value of the first number that is with it, where there is one
pub value_with : List Pair → List Bool → ℕ → Bool → Bool
value_with [] xs i other = other
value_with (x ∷ pairs) xs i other = cond (x.new == i) (get_or xs x.old false) (value_with pairs xs i other)

-- a pair has the number, and this is the value of the one that is with it; or none has
pub IsOf : List Pair → List Bool → ℕ → Bool → Type 0
IsOf pairs xs i value = (x : Pair) × Contains pairs x × (x.new ≡ i) × (value ≡ get_or xs x.old false)

IsOfNone : List Pair → ℕ → Type 0
IsOfNone pairs i = (x : Pair) → Contains pairs x → x.new ≡ i → ⊥

found : (pairs : List Pair) (xs : List Bool) (i : ℕ) (other : Bool)
    → IsOf pairs xs i (value_with pairs xs i other) ⊎ (IsOfNone pairs i × (value_with pairs xs i other ≡ other))
unfolding IsOf IsOfNone value_with
found [] xs i other = inr (λ x h e. absurd (omega (arith, h.1)), refl)
found (x ∷ pairs) xs i other = elim (cases_Bool (x.new == i)) [
  | inl on ↦ inl (x, first_in x pairs, eqb-true x.new i on, cond-true (x.new == i) (get_or xs x.old false) (value_with pairs xs i other) on)
  | inr off ↦
      let rest = cond-false (x.new == i) (get_or xs x.old false) (value_with pairs xs i other) off in
      elim (found pairs xs i other) [
        | inl is ↦ inl (is.0, later_in x pairs is.0 is.1, is.2, rest ∙ is.3)
        | inr none ↦ inr (
          λ y h e. elim (split_at x pairs y h.0 (found_at (x ∷ pairs) y h)) [
            | inl same ↦ apart (x.new == i) off (eq-eqb x.new i (ap (λ (z : Pair). z.new) same ∙ e))
            | inr later ↦ none.0 y later e
          ],
          rest ∙ none.1,
        )
      ]
]
  where
    apart : (b : Bool) → b ≡ false → b ≡ true → ⊥
    apart b e f = cc

-- the value of an input of b: of the input of OLD that it is with, else of the one of NEW
pub value_for : List Pair → List Pair → List Bool → List Bool → ℕ → Bool
value_for olds news xs ys i = value_with olds xs i (value_with news ys i false)

module _ (olds news : List Pair) (xs ys : List Bool) where
  pub value_of_old : AllPairs (λ x y. x.new ≢ y.new) olds → (x : Pair) → Contains olds x → get_or xs x.old false ≡ value_for olds news xs ys x.new
  unfolding IsOf IsOfNone value_for
  value_of_old once x h = elim (found olds xs x.new (value_with news ys x.new false)) [
    | inl is ↦
        let same = are_one (λ (z : Pair). z.new) olds once is.0 x is.1 h is.2 in
        sym (is.3 ∙ ap (λ (z : Pair). get_or xs z.old false) same)
    | inr none ↦ absurd (none.0 x h refl)
  ]

  pub value_of_new : AllPairs (λ x y. x.new ≢ y.new) news
      → ((x y : Pair) → Contains olds x → Contains news y → x.new ≡ y.new → get_or xs x.old false ≡ get_or ys y.old false)
      → (y : Pair) → Contains news y → get_or ys y.old false ≡ value_for olds news xs ys y.new
  unfolding IsOf IsOfNone value_for
  value_of_new once shared y h = elim (found olds xs y.new (value_with news ys y.new false)) [
    | inl is ↦ sym (is.3 ∙ shared is.0 y is.1 h is.2)
    | inr none ↦ elim (found news ys y.new false) [
      | inl is ↦
          let same = are_one (λ (z : Pair). z.new) news once is.0 y is.1 h is.2 in
          sym (none.1 ∙ is.3 ∙ ap (λ (z : Pair). get_or ys z.old false) same)
      | inr neither ↦ absurd (neither.0 y h refl)
    ]
  ]
