-- Fields, one after the other.
use Rattle.std.proofs.Common.{◌≡◌, ◌∙◌, ℕ, ◌+◌, ◌<◌, List, [], ◌∷◌, ◌++◌, sym, refl, ap, append_assoc, append-nil, map, codes, length, take, drop, get_or}
use Rattle.std.proofs.lemmas.List.{map-append, map_more, take-append-drop}
use Rattle.io_text.specs.Left.{Fields}
use Rattle.io_text.specs.Text.{after_commas, line_text, lines_text}

pub after_commas-append : (xs ys : Fields) → after_commas (xs ++ ys) ≡ after_commas xs ++ after_commas ys
after_commas-append [] ys = refl
after_commas-append (x ∷ xs) ys =
    ap (λ t. codes "," ++ (x ++ t)) (after_commas-append xs ys)
    ∙ ap (λ t. codes "," ++ t) (sym (append_assoc x (after_commas xs) (after_commas ys)))
    ∙ sym (append_assoc (codes ",") (x ++ after_commas xs) (after_commas ys))

-- one item more, each behind a comma
pub commas_more : {A : Type 0} (f : A → List ℕ) (items : List A) (i : ℕ) (d : A) → i < length items
    → after_commas (map f (take (i + 1) items)) ≡ after_commas (map f (take i items)) ++ (codes "," ++ f (get_or items i d))
commas_more f items i d h =
    ap after_commas (map_more f items i d h)
    ∙ after_commas-append (map f (take i items)) (f (get_or items i d) ∷ [])
    ∙ ap (λ t. after_commas (map f (take i items)) ++ (codes "," ++ t)) (append-nil (f (get_or items i d)))

pub commas_cut : {A : Type 0} (f : A → List ℕ) (items : List A) (i : ℕ) (d : A) → i < length items
    → after_commas (map f items) ≡ after_commas (map f (take i items)) ++ ((codes "," ++ f (get_or items i d)) ++ after_commas (map f (drop (i + 1) items)))
commas_cut f items i d h =
    ap (λ xs. after_commas (map f xs)) (sym (take-append-drop (i + 1) items))
    ∙ ap after_commas (map-append f (take (i + 1) items) (drop (i + 1) items))
    ∙ after_commas-append (map f (take (i + 1) items)) (map f (drop (i + 1) items))
    ∙ ap (λ t. t ++ after_commas (map f (drop (i + 1) items))) (commas_more f items i d h)
    ∙ append_assoc (after_commas (map f (take i items))) (codes "," ++ f (get_or items i d)) (after_commas (map f (drop (i + 1) items)))

pub lines_text-append : (xs ys : List Fields) → lines_text (xs ++ ys) ≡ lines_text xs ++ lines_text ys
lines_text-append [] ys = refl
lines_text-append (x ∷ xs) ys = ap (λ t. line_text x ++ t) (lines_text-append xs ys) ∙ sym (append_assoc (line_text x) (lines_text xs) (lines_text ys))
