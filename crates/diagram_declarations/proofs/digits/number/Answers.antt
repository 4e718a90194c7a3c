use Rattle.std.proofs.Common.{◌≡◌, ℕ, ◌+◌, ◌-◌, ◌*◌, ◌<◌, ◌^◌, min, List, ◌∷◌, length, drop, get_or, arith, sym, refl, ◌∙◌, ap, add-one, drop-cons}
use Rattle.diagram_declarations.specs.ReadTimes.{value_from}
use Rattle.diagram_declarations.proofs.Numbers.{clamped}
use Rattle.diagram_declarations.proofs.digits.number.Goals as goal

one_more : (xs : List ℕ) (i n cap total : ℕ) → i < length xs → min (value_from n (drop i xs)) cap ≡ total
    → min (value_from (min (n * 10 + (get_or xs i 0 - 48)) cap) (drop (i + 1) xs)) cap ≡ total
one_more xs i n cap total h same =
    let e : drop i xs ≡ get_or xs i 0 ∷ drop (i + 1) xs = rw (add-one, drop-cons xs i 0) refl in
    clamped (n * 10 + (get_or xs i 0 - 48)) cap (drop (i + 1) xs) ∙ sym (ap (λ z. min (value_from n z) cap) e) ∙ same

pub loop-digit-preserved : goal.loop-digit-preserved
loop-digit-preserved c = record {
  small = omega (arith, c.with_digit-n.ensures);
  same = rw c.with_digit-n.ensures (one_more c.args.digits.now c.loop-digit.digit-index c.loop-digit.n (2 ^ 32) _ c.loop-digit-test.true c.loop-digit.invariant.same);
}
