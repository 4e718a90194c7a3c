-- Lists with an entry replaced, and tests over lists of cells.
use Rattle.std.proofs.Common.{◌≡◌, ℕ, ◌<◌, Bool, true, false, ◌||◌, List, [], ◌∷◌, ◌++◌, length, get_or, set, refl, sym, ap, ◌∙◌, inl, inr, get_or-set_other, get_or-set_same}
use Rattle.std.specs.List.{list_any}
use Rattle.std.proofs.lemmas.Bool.{cases_eq}

pub set_alike : {A : Type 0} (xs ys : List A) (v : ℕ) (x z : A) → v < length xs → v < length ys → (i : ℕ) → (get_or xs i z ≡ get_or ys i z)
    → get_or (set xs v x) i z ≡ get_or (set ys v x) i z
set_alike xs ys v x z inside within i same = elim (cases_eq i v) [
  | inl e ↦
      ap (λ k. get_or (set xs v x) k z) e ∙ get_or-set_same xs v x z inside
      ∙ sym (ap (λ k. get_or (set ys v x) k z) e ∙ get_or-set_same ys v x z within)
  | inr e ↦ get_or-set_other xs v i x z e ∙ same ∙ sym (get_or-set_other ys v i x z e)
]

-- an entry that is given the value that it has
pub set_own : {A : Type 0} (xs : List A) (v : ℕ) (z : A) → v < length xs → (i : ℕ) → get_or (set xs v (get_or xs v z)) i z ≡ get_or xs i z
set_own xs v z inside i = elim (cases_eq i v) [
  | inl e ↦ ap (λ k. get_or (set xs v (get_or xs v z)) k z) e ∙ get_or-set_same xs v _ z inside ∙ ap (λ k. get_or xs k z) (sym e)
  | inr e ↦ get_or-set_other xs v i _ z e
]

or_assoc : (a b c : Bool) → (a || (b || c)) ≡ ((a || b) || c)
or_assoc true b c = refl
or_assoc false b c = refl

or_nothing : (a : Bool) → (a || false) ≡ a
or_nothing true = refl
or_nothing false = refl

pub any_one_more : {A : Type 0} (f : A → Bool) (xs : List A) (x : A) → list_any f (xs ++ x ∷ []) ≡ (list_any f xs || f x)
any_one_more f [] x = or_nothing (f x)
any_one_more f (y ∷ ys) x = ap (λ b. f y || b) (any_one_more f ys x) ∙ or_assoc (f y) (list_any f ys) (f x)

pub or_first : (x y : Bool) → (x || y) ≡ false → x ≡ false
or_first true y t = t
or_first false y t = refl

pub or_second : (x y : Bool) → (x || y) ≡ false → y ≡ false
or_second true true t = t
or_second true false t = refl
or_second false y t = t

pub or_left : (x y : Bool) → y ≡ false → (x || y) ≡ true → x ≡ true
or_left true y f t = refl
or_left false true f t = cc
or_left false false f t = t
