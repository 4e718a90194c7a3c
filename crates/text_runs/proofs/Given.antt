-- Bits for all inputs, in order, are what the inputs have then.
use Rattle.std.proofs.Common.{◌≡◌, ◌∙◌, ◌+◌, ◌<◌, ◌++◌, ◌∷◌, ◌==◌, [], ℕ, suc, zero, Bool, false, List, append_assoc, ap, arith, length, length-append, refl, sym}
use Rattle.std.specs.List.{AllByRecursion, IsDistinct, range_with_len}
use Rattle.std.proofs.Math.Seq.{set-append_seam}
use Rattle.std.proofs.lemmas.Bool.{ne_eqb}
use Rattle.text_trace.specs.Stimulus.{given_by}

-- ---- the places are distinct

none_equal : (a b n : ℕ) → a < b → AllByRecursion (λ c. (a == c) ≡ false) (range_with_len b n)
none_equal a b zero h = tt
none_equal a b (suc n) h = (ne_eqb a b (λ e. absurd (omega (arith, h, e))), none_equal a (b + 1) n (omega (arith, h)))

pub distinct_range : (a n : ℕ) → IsDistinct (λ (x y : ℕ). x == y) (range_with_len a n)
unfolding IsDistinct
distinct_range a zero = tt
distinct_range a (suc n) = (none_equal a (a + 1) n (omega arith), distinct_range (a + 1) n)

-- ---- the values of the places

given_from : (before bits image : List Bool) → length image ≡ length bits
    → given_by (range_with_len (length before) (length bits)) bits (before ++ image) ≡ before ++ bits
given_from before [] [] h = refl
given_from before [] (i ∷ image) h = absurd (omega (arith, h))
given_from before (b ∷ bits) [] h = absurd (omega (arith, h))
given_from before (b ∷ bits) (i ∷ image) h =
    let count : length before + 1 ≡ length (before ++ b ∷ []) = omega (arith, length-append before (b ∷ [])) in
    ap (given_by (range_with_len (length before + 1) (length bits)) bits) (set-append_seam before i image b ∙ sym (append_assoc before (b ∷ []) image))
    ∙ ap (λ n. given_by (range_with_len n (length bits)) bits ((before ++ b ∷ []) ++ image)) count
    ∙ given_from (before ++ b ∷ []) bits image (omega (arith, h))
    ∙ append_assoc before (b ∷ []) bits

pub all_given : (n : ℕ) (bits image : List Bool) → length bits ≡ n → length image ≡ n → given_by (range_with_len 0 n) bits image ≡ bits
all_given n bits image h k = ap (λ m. given_by (range_with_len 0 m) bits image) (sym h) ∙ given_from [] bits image (k ∙ sym h)
