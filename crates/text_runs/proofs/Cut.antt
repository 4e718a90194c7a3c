-- The records of a list, one item after the other.
use Rattle.std.proofs.Common.{◌≡◌, ◌∙◌, ◌+◌, ◌<◌, ◌++◌, ◌∷◌, [], ℕ, List, ap, append_assoc, drop, get_or, length, map, sym, take}
use Rattle.std.proofs.lemmas.List.{map-append, map_more, take-append-drop}

-- one item more
pub map_next : {A B : Type 0} (f : A → B) (items : List A) (i : ℕ) (x : A) → i < length items → x ≡ get_or items i x
    → map f (take (i + 1) items) ≡ map f (take i items) ++ (f x ∷ [])
map_next f items i x h e = map_more f items i x h ∙ ap (λ z. map f (take i items) ++ (f z ∷ [])) (sym e)

-- all items, cut at one of them
pub map_cut : {A B : Type 0} (f : A → B) (items : List A) (i : ℕ) (x : A) → i < length items → x ≡ get_or items i x
    → map f items ≡ map f (take i items) ++ ((f x ∷ []) ++ map f (drop (i + 1) items))
map_cut f items i x h e =
    ap (map f) (sym (take-append-drop (i + 1) items))
    ∙ map-append f (take (i + 1) items) (drop (i + 1) items)
    ∙ ap (λ t. t ++ map f (drop (i + 1) items)) (map_next f items i x h e)
    ∙ append_assoc (map f (take i items)) (f x ∷ []) (map f (drop (i + 1) items))
