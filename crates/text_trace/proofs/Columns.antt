-- The line of a record whose fields after the first are two lists, in parts.
use Rattle.std.proofs.Common.{◌≡◌, ◌∙◌, ◌++◌, ◌∷◌, ℕ, List, ap, append_assoc, codes, sym}
use Rattle.io_text.specs.Left.{Fields}
use Rattle.io_text.specs.Text.{after_commas, line_text}
use Rattle.io_text.proofs.Commas.{after_commas-append}

-- before both lists
pub parted : (first : List ℕ) (xs ys : Fields) → line_text (first ∷ (xs ++ ys)) ≡ first ++ (after_commas xs ++ (after_commas ys ++ codes "\n"))
parted first xs ys =
    ap (λ t. first ++ (t ++ codes "\n")) (after_commas-append xs ys)
    ∙ ap (λ t. first ++ t) (append_assoc (after_commas xs) (after_commas ys) (codes "\n"))

-- between them
pub parted_between : (first : List ℕ) (xs ys : Fields) → line_text (first ∷ (xs ++ ys)) ≡ (first ++ after_commas xs) ++ (after_commas ys ++ codes "\n")
parted_between first xs ys = parted first xs ys ∙ sym (append_assoc first (after_commas xs) (after_commas ys ++ codes "\n"))

-- behind them
pub parted_behind : (first : List ℕ) (xs ys : Fields) → line_text (first ∷ (xs ++ ys)) ≡ ((first ++ after_commas xs) ++ after_commas ys) ++ codes "\n"
parted_behind first xs ys = parted_between first xs ys ∙ sym (append_assoc (first ++ after_commas xs) (after_commas ys) (codes "\n"))
