-- The first item of a list that passes a test.
use Rattle.std.proofs.Common.{◌≡◌, ◌++◌, ◌∷◌, [], Bool, true, false, List, Some, None, cond, map, option_map, refl}
use Rattle.std.specs.Prelude.{find}

module _ {A B : Type 0} (p : B → Bool) (f : A → B) where
  -- what is found among what a function makes of items
  pub find-map : (xs : List A) → find p (map f xs) ≡ option_map f (find (λ x. p (f x)) xs)
  find-map [] = refl
  find-map (x ∷ xs) = here (p (f x)) (find-map xs)
    where
      here : (b : Bool) → find p (map f xs) ≡ option_map f (find (λ y. p (f y)) xs)
          → cond b (Some (f x)) (find p (map f xs)) ≡ option_map f (cond b (Some x) (find (λ y. p (f y)) xs))
      here true others = refl
      here false others = others

module _ {A : Type 0} (p : A → Bool) where
  -- behind items of which none passes
  pub find_behind : (xs ys : List A) → None ≡ find p xs → find p (xs ++ ys) ≡ find p ys
  find_behind [] ys e = refl
  find_behind (x ∷ xs) ys e = here (p x) (λ h. find_behind xs ys h) e
    where
      here : (b : Bool) → (None ≡ find p xs → find p (xs ++ ys) ≡ find p ys) → None ≡ cond b (Some x) (find p xs) → cond b (Some x) (find p (xs ++ ys)) ≡ find p ys
      here true others h = cc
      here false others h = others h

  -- before others
  pub find_before : (xs ys : List A) (found : A) → Some found ≡ find p xs → Some found ≡ find p (xs ++ ys)
  find_before [] ys found e = cc
  find_before (x ∷ xs) ys found e = here (p x) (λ h. find_before xs ys found h) e
    where
      here : (b : Bool) → (Some found ≡ find p xs → Some found ≡ find p (xs ++ ys)) → Some found ≡ cond b (Some x) (find p xs) → Some found ≡ cond b (Some x) (find p (xs ++ ys))
      here true others h = h
      here false others h = others h
