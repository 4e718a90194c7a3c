-- A record whose first two fields are written first.
use Rattle.std.proofs.Common.{◌≡◌, ◌∙◌, ◌++◌, ◌∷◌, ℕ, List, [], ap, append_assoc, append-nil, codes, sym}

-- its first two fields, and what follows
pub in_two : (first second rest end : List ℕ) → first ++ (((codes "," ++ second) ++ rest) ++ end) ≡ (first ++ (codes "," ++ (second ++ []))) ++ (rest ++ end)
in_two first second rest end =
    let inner : (second ++ rest) ++ end ≡ (second ++ []) ++ (rest ++ end) =
    append_assoc second rest end ∙ ap (λ xs. xs ++ (rest ++ end)) (sym (append-nil second)) in
    ap (λ xs. first ++ 44 ∷ xs) inner ∙ sym (append_assoc first (44 ∷ (second ++ [])) (rest ++ end))
