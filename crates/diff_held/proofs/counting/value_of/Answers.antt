use Rattle.std.proofs.Common.{◌∙◌, arith, sym, ap}
use Rattle.std.specs.Prelude.{◌==◌}
use Rattle.std.proofs.lemmas.Nat.Bits.{bit_at_above}
use Rattle.causes_query.specs.Sources.{bit}
use Rattle.diff_held.proofs.counting.value_of.Goals as goal

pub returns-then-shift-ge64 : goal.returns-then-shift-ge64
returns-then-shift-ge64 c =
    sym (ap (λ n. n == 1) (bit_at_above c.args.number 64 c.in-Listed.shift (omega (arith, c.ranges.number.fits)) (omega (arith, c.if-shift-ge64.true))))
    ∙ ap (λ s. bit s c.args.number) (sym c.in-Listed.is)
