-- A number that is kept at most at a limit while it is read.
use Rattle.std.proofs.Common.{◌≡◌, ℕ, ◌+◌, ◌-◌, ◌*◌, ◌≤◌, min, List, [], ◌∷◌, arith, inl, inr, ap}
use Rattle.std.proofs.lemmas.Bool.{cases_lt}
use Rattle.diagram_declarations.specs.ReadTimes.{value_from}

grows : (n : ℕ) (bs : List ℕ) → n ≤ value_from n bs
grows n [] = omega arith
grows n (b ∷ bs) = omega (arith, grows (n * 10 + (b - 48)) bs)

pub clamped : (m cap : ℕ) (bs : List ℕ) → min (value_from (min m cap) bs) cap ≡ min (value_from m bs) cap
clamped m cap bs =
    elim (cases_lt m cap) [
      | inl below ↦ let same : min m cap ≡ m = omega arith in ap (λ k. min (value_from k bs) cap) same
      | inr above ↦ omega (arith, grows m bs, grows (min m cap) bs)
    ]
