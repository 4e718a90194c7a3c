-- Lists whose elements are apart, as an equality that does not mind the order of its sides tells it.
use Rattle.std.proofs.Common.{◌≡◌, Bool, false, ◌||◌, List, [], ◌∷◌, ◌++◌, map, refl, sym, ap, ◌∙◌}
use Rattle.std.specs.List.{All, IsDistinct, AllByRecursion, list_any}
use Rattle.std.specs.List.Sorted.{IsPermutation}
use Rattle.std.proofs.lemmas.Bool.{or_parts}
use Rattle.std.proofs.lemmas.List.Elements.{All-head, All-tail}
use Rattle.std.proofs.lemmas.List.Folds.{list_any-append}
use Rattle.std.proofs.lemmas.List.Sorted.{IsPermutation-sym}
use Rattle.std.proofs.lemmas.Map.Keys.{IsDistinct-head, IsDistinct-tail, IsDistinct-cons, IsDistinct-IsPermutation}

pub list_any-map : {X Y : Type 0} (p : Y → Bool) (f : X → Y) (xs : List X) → list_any p (map f xs) ≡ list_any (λ x. p (f x)) xs
list_any-map p f [] = refl
list_any-map p f (x ∷ xs) = ap (λ b. p (f x) || b) (list_any-map p f xs)

pub list_any-left : {X : Type 0} (p : X → Bool) (xs ys : List X) → list_any p (xs ++ ys) ≡ false → list_any p xs ≡ false
list_any-left p xs ys h = (or_parts (list_any p xs) (list_any p ys) (sym (list_any-append p xs ys) ∙ h)).0

-- what holds of a whole list holds of the element in its middle
pub All-middle : {X : Type 0} (P : X → Type 0) (xs : List X) (y : X) (zs : List X) → All P (xs ++ y ∷ zs) → P y
All-middle P [] y zs h = All-head P y zs h
All-middle P (x ∷ xs) y zs h = All-middle P xs y zs (All-tail P x (xs ++ y ∷ zs) h)

pub none_passes : {X : Type 0} (p : X → Bool) (xs : List X) → list_any p xs ≡ false → AllByRecursion (λ x. p x ≡ false) xs
none_passes p [] h = tt
none_passes p (x ∷ xs) h = let parts = or_parts (p x) (list_any p xs) h in (parts.0, none_passes p xs parts.1)

list_any-none : {X : Type 0} (p : X → Bool) (xs : List X) → AllByRecursion (λ x. p x ≡ false) xs → list_any p xs ≡ false
list_any-none p [] h = refl
list_any-none p (x ∷ xs) h = rw (h.0, list_any-none p xs h.1) refl

-- one more element, in any place, which no other is equal to
pub IsDistinct-more : {X : Type 0} (e : X → X → Bool) → ((x y : X) → e x y ≡ e y x) → (y : X) (xs ys : List X) → IsPermutation ys (y ∷ xs)
    → IsDistinct e xs → list_any (e y) xs ≡ false → IsDistinct e ys
IsDistinct-more e flips y xs ys moved h new =
    IsDistinct-IsPermutation e flips (y ∷ xs) ys (IsPermutation-sym ys (y ∷ xs) moved) (IsDistinct-cons e y xs (none_passes (e y) xs new) h)

pub IsDistinct-less : {X : Type 0} (e : X → X → Bool) → ((x y : X) → e x y ≡ e y x) → (y : X) (xs ys : List X) → IsPermutation ys (y ∷ xs)
    → IsDistinct e ys → IsDistinct e xs × (list_any (e y) xs ≡ false)
IsDistinct-less e flips y xs ys moved h =
    let first = IsDistinct-IsPermutation e flips ys (y ∷ xs) moved h in
    (IsDistinct-tail e y xs first, list_any-none (e y) xs (IsDistinct-head e y xs first))
