-- Texts of several parts.
use Rattle.std.proofs.Common.{◌≡◌, ◌∙◌, ◌++◌, ℕ, List, ap, append_assoc, sym}

pub regroup : (a b c rest : List ℕ) → a ++ (b ++ (c ++ rest)) ≡ (a ++ (b ++ c)) ++ rest
regroup a b c rest = ap (λ t. a ++ t) (sym (append_assoc b c rest)) ∙ sym (append_assoc a (b ++ c) rest)
