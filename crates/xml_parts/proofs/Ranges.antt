-- A range that is cut at the end of a list.
use Rattle.std.proofs.Common.{◌≡◌, inl, inr, ℕ, zero, suc, ◌-◌, ◌<◌, ◌≤◌, min, List, [], ◌∷◌, length, take, drop, slice_range, refl, sym, ap, ◌∙◌, arith}
use Rattle.std.proofs.lemmas.Bool.{cases_lt}
use Rattle.std.proofs.lemmas.List.{length-drop}
use Rattle.std.proofs.Math.Seq.{take-nil}

take_all : (n : ℕ) (xs : List ℕ) → length xs ≤ n → take n xs ≡ xs
take_all n [] h = take-nil n
take_all zero (x ∷ xs) h = absurd (omega (arith, h))
take_all (suc n) (x ∷ xs) h = ap (λ ys. x ∷ ys) (take_all n xs (omega (arith, h)))

within : (text : List ℕ) (start end : ℕ) → end ≤ length text → slice_range text (min start end) end ≡ slice_range text start end
within text start end fits = elim (cases_lt end start) [ inl past ↦ empty past | inr before ↦ (let e : min start end ≡ start = omega (arith, before) in rw e refl) ]
  where
    empty : end < start → slice_range text (min start end) end ≡ slice_range text start end
    empty past =
        let e : end - min start end ≡ 0 = omega (arith, past) in
        let f : end - start ≡ 0 = omega (arith, past) in
        rw (e, f) refl

cut : (text : List ℕ) (start end : ℕ) → length text ≤ end → slice_range text start (length text) ≡ slice_range text start end
cut text start end past =
    let rest : length (drop start text) ≡ length text - start = length-drop start text in
    let one : length (drop start text) ≤ length text - start = omega arith in
    let two : length (drop start text) ≤ end - start = omega (arith, past) in
    take_all (length text - start) (drop start text) one ∙ sym (take_all (end - start) (drop start text) two)

pub clamped : (text : List ℕ) (start end : ℕ) → slice_range text (min start (min end (length text))) (min end (length text)) ≡ slice_range text start end
clamped text start end =
    elim (cases_lt end (length text)) [
      | inl inside ↦ (let e : min end (length text) ≡ end = omega (arith, inside) in rw e (within text start end (omega (arith, inside))))
      | inr past ↦ (let e : min end (length text) ≡ length text = omega (arith, past) in
          rw e (within text start (length text) (omega arith) ∙ cut text start end past))
    ]
