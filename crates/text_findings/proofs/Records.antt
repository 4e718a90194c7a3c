-- The record of a finding, in the pieces in which it is written, and records one after the other.
use Rattle.std.proofs.Common.{◌≡◌, ◌∙◌, ◌+◌, ◌<◌, ◌++◌, ◌∷◌, [], ℕ, List, ap, append_assoc, codes, drop, get_or, length, map, sym, take}
use Rattle.std.proofs.lemmas.List.{map-append, map_more, take-append-drop}
use Rattle.io_text.specs.Text.{line_text}

pub in_pieces : (name mark word old new : List ℕ) → line_text ((name ++ mark) ∷ word ∷ old ∷ new ∷ [])
    ≡ (name ++ (mark ++ (codes "," ++ word))) ++ ((codes "," ++ old) ++ ((codes "," ++ new) ++ codes "\n"))
in_pieces name mark word old new =
    let w = codes "," ++ word in
    let a = codes "," ++ old in
    let b = codes "," ++ new in
    let end = codes "\n" in
    let rest = a ++ (b ++ end) in
    let tail : (w ++ (a ++ (b ++ []))) ++ end ≡ w ++ rest =
    append_assoc w (a ++ (b ++ [])) end ∙ ap (λ t. w ++ t) (append_assoc a (b ++ []) end ∙ ap (λ t. a ++ t) (append_assoc b [] end)) in
    ap (λ t. (name ++ mark) ++ t) tail ∙ append_assoc name mark (w ++ rest)
    ∙ sym (append_assoc name (mark ++ w) rest ∙ ap (λ t. name ++ t) (append_assoc mark w rest))

pub with_second : (head first second : List ℕ) → head ++ (first ++ second) ≡ (head ++ (first ++ [])) ++ second
with_second head first second = sym (append_assoc head (first ++ []) second ∙ ap (λ t. head ++ t) (append_assoc first [] second))

pub map_cut : {A B : Type 0} (f : A → B) (items : List A) (i : ℕ) (d : A) → i < length items
    → map f items ≡ map f (take i items) ++ ((f (get_or items i d) ∷ []) ++ map f (drop (i + 1) items))
map_cut f items i d h =
    ap (map f) (sym (take-append-drop (i + 1) items))
    ∙ map-append f (take (i + 1) items) (drop (i + 1) items)
    ∙ ap (λ t. t ++ map f (drop (i + 1) items)) (map_more f items i d h)
    ∙ append_assoc (map f (take i items)) (f (get_or items i d) ∷ []) (map f (drop (i + 1) items))
