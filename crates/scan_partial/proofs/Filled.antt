-- One turn of a loop that fills a list with what another one gives.
use Rattle.std.proofs.Common.{◌≡◌, ℕ, ◌+◌, ◌<◌, List, [], ◌∷◌, ◌++◌, length, map, set, take, get_or, Some, sym, ap, ap₂, ◌∙◌}
use Rattle.std.specs.List.{slice_get}
use Rattle.std.proofs.lemmas.List.{take_more, take_more_set, map-append}
use Rattle.std.proofs.lemmas.Option.{get_or_from_slice_get, slice_get_within}

pub filled_more : {A C : Type 0} (f : A → C) (xs : List A) (ys : List C) (i : ℕ) (x : A) (y : C) → take i ys ≡ map f (take i xs)
    → slice_get xs i ≡ Some x → i < length ys → y ≡ f x → take (i + 1) (set ys i y) ≡ map f (take (i + 1) xs)
filled_more f xs ys i x y e g lt is =
    take_more_set ys i y lt
    ∙ ap₂ (λ zs z. zs ++ z ∷ []) e (is ∙ ap f (sym (get_or_from_slice_get xs i x x g)))
    ∙ sym (map-append f (take i xs) (get_or xs i x ∷ []))
    ∙ ap (map f) (sym (take_more xs i x (slice_get_within xs i x g)))
