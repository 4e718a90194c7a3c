-- What a list has at a place behind a write, and what a variable stands for.
use Rattle.std.proofs.Common.{◌≡◌, ◌≢◌, ◌∙◌, ℕ, ◌<◌, Bool, true, false, List, [], ◌∷◌, Option, Some, None, zero, suc, length, set, slice_get, get_or, sym, ap, arith, inl, inr, length-set, get_or-set_other, get_or-set_same, true≢false, refl}
use Rattle.std.specs.Option.{is_some}
use Rattle.std.proofs.lemmas.Bool.{cases_lt, eqb-true, ne_eqb}
use Rattle.std.proofs.lemmas.Option.{none-some, slice_get-get_or, slice_get_past}
use Rattle.st_integers.specs.declared.value.IntegerValue.{IntegerValue}
use Rattle.st_integers.specs.Values.{is_of_integer}

pub at_other : (xs : List Bool) (i k : ℕ) (x : Bool) → k ≢ i → slice_get (set xs i x) k ≡ slice_get xs k
at_other xs i k x apart = elim (cases_lt k (length xs)) [
  | inl lt ↦
      slice_get-get_or (set xs i x) k false (omega (arith, lt, length-set xs i x))
      ∙ ap Some (get_or-set_other xs i k x false apart)
      ∙ sym (slice_get-get_or xs k false lt)
  | inr le ↦ slice_get_past (set xs i x) k (omega (arith, le, length-set xs i x)) ∙ sym (slice_get_past xs k le)
]

pub at_same : (xs : List Bool) (i : ℕ) (x : Bool) → i < length xs → slice_get (set xs i x) i ≡ Some x
at_same xs i x lt = slice_get-get_or (set xs i x) i false (omega (arith, lt, length-set xs i x)) ∙ ap Some (get_or-set_same xs i x false lt)

-- A value belongs to one INT.
pub of_one : (integer other : ℕ) (of : Option IntegerValue) → other ≢ integer → is_of_integer other of ≡ true → is_of_integer integer of ≡ false
of_one integer other None apart is = absurd (true≢false (sym is))
of_one integer other (Some v) apart is = ne_eqb _ _ (λ same. apart (sym (eqb-true _ _ is) ∙ same))

-- A variable that stands for no value is another one.
pub is_other : (values : List (Option IntegerValue)) (integer variable k : ℕ) → get_or values variable None ≡ None → is_of_integer integer (get_or values k None) ≡ true → k ≢ variable
is_other values integer variable k none is = λ same.
    true≢false (sym is ∙ ap (λ i. is_of_integer integer (get_or values i None)) same ∙ ap (is_of_integer integer) none)

-- A variable that stands for a value is on the list.
pub within : (values : List (Option IntegerValue)) (integer k : ℕ) → is_of_integer integer (get_or values k None) ≡ true → k < length values
within [] integer k is = absurd (true≢false (sym is))
within (v ∷ vs) integer zero is = omega arith
within (v ∷ vs) integer (suc k) is = omega (arith, within vs integer k is)

pub free : (of : Option IntegerValue) → is_some of ≡ false → of ≡ None
free None is = refl
free (Some v) is = absurd (true≢false is)

pub taken : (of : Option IntegerValue) → is_some of ≡ true → of ≡ None → ⊥
taken None is none = true≢false (sym is)
taken (Some v) is none = none-some v (sym none)
