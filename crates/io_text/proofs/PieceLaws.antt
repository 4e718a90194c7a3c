-- The text of pieces, up to a place and after it.
use Rattle.std.proofs.Common.{◌≡◌, ◌∙◌, ap, sym, refl, ℕ, ◌+◌, ◌<◌, List, [], ◌∷◌, ◌++◌, length, take, drop, get_or, append_assoc, append-nil, add-one, take-suc, take-append-drop}
use Rattle.io_text.specs.declared.pieces.Piece.{Piece}
use Rattle.io_text.specs.Pieces.{piece_text, pieces_text}

pub pieces_text-append : (ps qs : List Piece) → pieces_text (ps ++ qs) ≡ pieces_text ps ++ pieces_text qs
pieces_text-append [] qs = refl
pieces_text-append (p ∷ ps) qs =
    ap (λ x. piece_text p ++ x) (pieces_text-append ps qs) ∙ sym (append_assoc (piece_text p) (pieces_text ps) (pieces_text qs))

-- one piece more
pub pieces_text-take : (ps : List Piece) (i : ℕ) (d : Piece) → i < length ps
    → pieces_text (take (i + 1) ps) ≡ pieces_text (take i ps) ++ piece_text (get_or ps i d)
pieces_text-take ps i d h =
    let t : take (i + 1) ps ≡ take i ps ++ (get_or ps i d ∷ []) = rw (add-one i) (take-suc ps i d h) in
    ap pieces_text t
    ∙ pieces_text-append (take i ps) (get_or ps i d ∷ [])
    ∙ ap (λ x. pieces_text (take i ps) ++ x) (append-nil (piece_text (get_or ps i d)))

-- the whole text, cut behind a piece
pub pieces_text-cut : (ps : List Piece) (i : ℕ) (d : Piece) → i < length ps
    → pieces_text ps ≡ (pieces_text (take i ps) ++ piece_text (get_or ps i d)) ++ pieces_text (drop (i + 1) ps)
pieces_text-cut ps i d h =
    ap pieces_text (sym (take-append-drop (i + 1) ps))
    ∙ pieces_text-append (take (i + 1) ps) (drop (i + 1) ps)
    ∙ ap (λ x. x ++ pieces_text (drop (i + 1) ps)) (pieces_text-take ps i d h)
