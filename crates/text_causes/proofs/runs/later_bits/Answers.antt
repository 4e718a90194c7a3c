use Rattle.std.proofs.Common.{◌≡◌, ◌∙◌, ◌+◌, ◌-◌, ◌/◌, ◌^◌, ap, arith}
use Rattle.std.proofs.lemmas.Nat.{shr-shr}
use Rattle.text_causes.proofs.runs.later_bits.Goals as goal

pub returns : goal.returns
returns c =
    let there : c.args.count - 1 + 1 ≡ c.args.count = omega (arith, c.requires.0) in
    shr-shr c.args.mask (c.args.count - 1) 1 ∙ ap (λ n. c.args.mask / 2 ^ n) there
