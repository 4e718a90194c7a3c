-- A list of rows, cut at one of them.
use Rattle.std.proofs.Common.{◌≡◌, ◌∙◌, ◌+◌, ◌<◌, ◌++◌, ◌∷◌, [], ℕ, List, ap, append_assoc, drop, get_or, length, map, sym, take}
use Rattle.std.proofs.lemmas.List.{map-append, map_more, take-append-drop}

pub map_cut : {A B : Type 0} (f : A → B) (items : List A) (i : ℕ) (d : A) → i < length items
    → map f items ≡ map f (take i items) ++ ((f (get_or items i d) ∷ []) ++ map f (drop (i + 1) items))
map_cut f items i d h =
    ap (map f) (sym (take-append-drop (i + 1) items))
    ∙ map-append f (take (i + 1) items) (drop (i + 1) items)
    ∙ ap (λ t. t ++ map f (drop (i + 1) items)) (map_more f items i d h)
    ∙ append_assoc (map f (take i items)) (f (get_or items i d) ∷ []) (map f (drop (i + 1) items))
