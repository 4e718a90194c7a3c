-- The one variable of an INT that is ON.
use Rattle.std.proofs.Common.{◌≡◌, ◌∙◌, ℕ, Bool, true, ◌==◌, List, Option, Some, slice_get, refl, sym, ap}
use Rattle.std.proofs.lemmas.Bool.{eq-eqb, eqb-true}
use Rattle.st_integers.specs.declared.value.IntegerValue.{IntegerValue}
use Rattle.st_integers.specs.Values.{HasOne, stands_for}

module _ (values : List (Option IntegerValue)) (on : List Bool) (integer : ℕ) (one : HasOne values on integer) where
  pub is_on : slice_get on one.variable ≡ Some true
  is_on = one.each one.variable one.is_one ∙ ap Some (eq-eqb _ _ refl)

  same : (chosen : ℕ) → slice_get on chosen ≡ Some true → slice_get on chosen ≡ Some (chosen == one.variable) → (chosen == one.variable) ≡ true
  same chosen is told = cc

  pub is_chosen : (chosen : ℕ) → stands_for values integer chosen ≡ true → slice_get on chosen ≡ Some true
      → (k : ℕ) → stands_for values integer k ≡ true → slice_get on k ≡ Some (k == chosen)
  is_chosen chosen stands is = λ k s.
      one.each k s ∙ ap (λ n. Some (k == n)) (sym (eqb-true chosen one.variable (same chosen is (one.each chosen stands))))
