-- The value of an expression whose inputs are at other places.
use Rattle.std.proofs.Common.{◌≡◌, ap, ap₂, arith, refl, sym, subst, ◌∙◌, ◌||◌, ◌<◌, ◌≤◌, ◌+◌, ℕ, length, zero, suc, Bool, false, not, Box, Global, List, [], ◌∷◌, Option, Some, None, Result, Ok, Err, map}
use Rattle.std.specs.Prelude.{◌&&◌, IfOk, slice_index_or}
use Rattle.st_expression.specs.declared.expression.Expression.{And, Equal, Exclusive, Expression, Not, Or}
use Rattle.st_expression.specs.declared.expression.Operand.{Operand}
use Rattle.st_expression.specs.Value.{differ, held, held_by, value}
use Rattle.assume_truth.specs.Truth.{is_allowed}
use Rattle.assume_places.specs.Places.{values_at}

ok_same : {X E : Type 0} (x e : X) (made : Result X E) → made ≡ Ok x → made ≡ Ok e → x ≡ e
ok_same x e made was is = cc

-- what was made is what it is made to be
pub of_ok : {E : Type 0} (P : Expression → Type 0) (made : Result Expression E) (e : Expression) → made ≡ Ok e → IfOk made P → P e
of_ok P (Ok x) e is p = subst P (ok_same x e (Ok x) refl is) p
of_ok P (Err f) e is p = cc

held_is : (values : List Bool) (n : ℕ) → slice_index_or values n false ≡ held values n
held_is [] n = refl
held_is (v ∷ values) zero = refl
held_is (v ∷ values) (suc n) = held_is values n

-- an input has the value that is at its place
pub at_place : (places : List ℕ) (values : List Bool) (place there : ℕ) → place < length places → ((d : ℕ) → there ≡ slice_index_or places place d)
    → held values there ≡ held (values_at places values) place
at_place [] values place there within is = absurd (omega (arith, within))
at_place (n ∷ places) values zero there within is = ap (held values) (is 0) ∙ sym (held_is values n)
at_place (n ∷ places) values (suc place) there within is = at_place places values place there (omega (arith, within)) is

-- past the last place it is OFF
pub past_places : (places : List ℕ) (values : List Bool) (place : ℕ) → length places ≤ place → false ≡ held (values_at places values) place
past_places [] values place past = refl
past_places (n ∷ places) values zero past = absurd (omega (arith, past))
past_places (n ∷ places) values (suc place) past = past_places places values place (omega (arith, past))

-- ---- an expression has the value that another one has where its parts do
module _ (here there : Operand → Bool) where
  pub not_same : (e : Expression) (x a : Box Expression Global) → e ≡ Not a → value here x.value ≡ value there a.value → value here (Not x) ≡ value there e
  unfolding value
  not_same e x a is h = subst (λ (e : Expression). value here (Not x) ≡ value there e) (sym is) (ap not h)

  module _ (e : Expression) (x y a b : Box Expression Global) (first : value here x.value ≡ value there a.value) (second : value here y.value ≡ value there b.value) where
    pub equal_same : e ≡ Equal a b → value here (Equal x y) ≡ value there e
    unfolding value
    equal_same is = subst (λ (e : Expression). value here (Equal x y) ≡ value there e) (sym is) (ap₂ (λ u v. not (differ u v)) first second)

    pub and_same : e ≡ And a b → value here (And x y) ≡ value there e
    unfolding value
    and_same is = subst (λ (e : Expression). value here (And x y) ≡ value there e) (sym is) (ap₂ (λ u v. u && v) first second)

    pub exclusive_same : e ≡ Exclusive a b → value here (Exclusive x y) ≡ value there e
    unfolding value
    exclusive_same is = subst (λ (e : Expression). value here (Exclusive x y) ≡ value there e) (sym is) (ap₂ differ first second)

    pub or_same : e ≡ Or a b → value here (Or x y) ≡ value there e
    unfolding value
    or_same is = subst (λ (e : Expression). value here (Or x y) ≡ value there e) (sym is) (ap₂ (λ u v. u || v) first second)

-- both joined by AND
allowed_as : (values : List Bool) (e : Option Expression) (a x : Expression) → e ≡ Some a → a ≡ x → value (held_by values []) x ≡ is_allowed e values
allowed_as values e a x is same = ap (value (held_by values [])) (sym same) ∙ ap (λ (e : Option Expression). is_allowed e values) (sym is)

pub and_allowed : {E : Type 0} (values : List Bool) (first second : Option Expression) (a b : Expression) (x y : Box Expression Global) (made other : Result Expression E)
    → first ≡ Some a → second ≡ Some b → made ≡ Ok a → made ≡ Ok x.value → other ≡ Ok b → other ≡ Ok y.value
    → value (held_by values []) (And x y) ≡ (is_allowed first values && is_allowed second values)
unfolding value
and_allowed values first second a b x y made other one two was is had has =
    ap₂ (λ u v. u && v) (allowed_as values first a x.value one (ok_same a x.value made was is)) (allowed_as values second b y.value two (ok_same b y.value other had has))
