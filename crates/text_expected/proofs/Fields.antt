-- The fields of a record, one by one.
use Rattle.std.proofs.Common.{◌≡◌, ◌∙◌, ◌<◌, ◌++◌, ◌∷◌, [], ℕ, suc, zero, None, ap, append-nil, append_assoc, arith, codes, drop, get_or, length, refl, sym, take}
use Rattle.csv.specs.Records.{field_at}
use Rattle.io_text.specs.Left.{Fields}
use Rattle.io_text.specs.Text.{after_commas, line_text}

pub field_none : (fs : Fields) (i : ℕ) → field_at fs i ≡ None → get_or fs i [] ≡ []
unfolding field_at
field_none [] i e = refl
field_none (f ∷ fs) zero e = cc
field_none (f ∷ fs) (suc i) e = field_none fs i e

-- one field more behind the first
pub others_more : (fs : Fields) (i : ℕ) → suc i < length fs → after_commas (take (suc i) (drop 1 fs)) ≡ after_commas (take i (drop 1 fs)) ++ (codes "," ++ get_or fs (suc i) [])
others_more [] i h = absurd (omega (arith, h))
others_more (f ∷ []) i h = absurd (omega (arith, h))
others_more (f ∷ (g ∷ fs)) zero h = append-nil (codes "," ++ g)
others_more (f ∷ (g ∷ fs)) (suc i) h =
    ap (λ t. codes "," ++ (g ++ t)) (others_more (g ∷ fs) i (omega (arith, h)))
    ∙ ap (λ t. codes "," ++ t) (sym (append_assoc g (after_commas (take i fs)) (codes "," ++ get_or fs i [])))
    ∙ sym (append_assoc (codes ",") (g ++ after_commas (take i fs)) (codes "," ++ get_or fs i []))

pub others_cut : (fs : Fields) (i : ℕ) → suc i < length fs
    → after_commas (drop 1 fs) ≡ after_commas (take i (drop 1 fs)) ++ ((codes "," ++ get_or fs (suc i) []) ++ after_commas (drop (suc i) (drop 1 fs)))
others_cut [] i h = absurd (omega (arith, h))
others_cut (f ∷ []) i h = absurd (omega (arith, h))
others_cut (f ∷ (g ∷ fs)) zero h = sym (append_assoc (codes ",") g (after_commas fs))
others_cut (f ∷ (g ∷ fs)) (suc i) h =
    ap (λ t. codes "," ++ (g ++ t)) (others_cut (g ∷ fs) i (omega (arith, h)))
    ∙ ap (λ t. codes "," ++ t) (sym (append_assoc g (after_commas (take i fs)) ((codes "," ++ get_or fs i []) ++ after_commas (drop (suc i) fs))))
    ∙ sym (append_assoc (codes ",") (g ++ after_commas (take i fs)) ((codes "," ++ get_or fs i []) ++ after_commas (drop (suc i) fs)))

-- the line is the first field and the others
pub line_parts : (fs : Fields) → get_or fs 0 [] ++ (after_commas (drop 1 fs) ++ codes "\n") ≡ line_text fs
line_parts [] = refl
line_parts (f ∷ fs) = refl
