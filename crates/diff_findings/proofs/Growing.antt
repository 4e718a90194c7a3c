-- A list that grows by what belongs to one number more.
use Rattle.std.proofs.Common.{◌≡◌, ◌∙◌, ℕ, ◌+◌, List, [], ◌∷◌, ◌++◌, add-one, ap, append-nil, append_assoc, arith, sym}
use Rattle.std.specs.List.{flat_map, range_with_len}
use Rattle.std.proofs.lemmas.Grind.{flat_map-append}
use Rattle.diagram_program.proofs.Ranges.{range_more}

next : {A : Type 0} (f : ℕ → List A) (n : ℕ) → flat_map f (range_with_len 0 (n + 1)) ≡ flat_map f (range_with_len 0 n) ++ f n
next f n =
    let here : 0 + n ≡ n = omega arith in
    ap (λ k. flat_map f (range_with_len 0 k)) (add-one n) ∙ ap (flat_map f) (range_more 0 n ∙ ap (λ k. range_with_len 0 n ++ k ∷ []) here)
    ∙ flat_map-append f (range_with_len 0 n) (n ∷ []) ∙ ap (λ t. flat_map f (range_with_len 0 n) ++ t) (append-nil (f n))

pub one_number : {A : Type 0} (f : ℕ → List A) (before xs ys : List A) (n : ℕ) → xs ≡ before ++ flat_map f (range_with_len 0 n) → ys ≡ xs ++ f n
    → ys ≡ before ++ flat_map f (range_with_len 0 (n + 1))
one_number f before xs ys n same more =
    more ∙ ap (λ l. l ++ f n) same ∙ append_assoc before (flat_map f (range_with_len 0 n)) (f n) ∙ ap (λ l. before ++ l) (sym (next f n))
