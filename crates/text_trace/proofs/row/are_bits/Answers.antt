use Rattle.std.proofs.Common.{◌≡◌, ◌∙◌, ◌+◌, ◌-◌, suc, Some, ap, arith, drop, length-drop, refl, sym, take, take_all}
use Rattle.csv.specs.Records.{field_at, fields_of}
use Rattle.text_trace.specs.Stimulus.{are_bits, is_bit}
use Rattle.text_trace.proofs.Bits.{field_behind}
use Rattle.text_trace.proofs.Lists.{all_more, all_not}
use Rattle.text_trace.proofs.row.are_bits.Goals as goal

pub loop-number-init : goal.loop-number-init
loop-number-init c = (omega arith, refl)

pub loop-number-preserved : goal.loop-number-preserved
loop-number-preserved c =
    let fs = fields_of c.args.row.now in
    let i = c.loop-number.number - 1 in
    let here = field_behind fs i (omega (arith, c.loop-number-test.true, c.loop-number.invariant.0)) in
    let at : suc i ≡ c.loop-number.number = omega (arith, c.loop-number.invariant.0) in
    let next : suc i ≡ c.loop-number.number + 1 - 1 = omega (arith, c.loop-number.invariant.0) in
    let bit = ap is_bit (sym here.2 ∙ ap (λ n. field_at fs n) at) ∙ sym c.is_bit.ensures ∙ c.if-not-is_bit.false in
    (omega arith, ap (λ n. are_bits (take n (drop 1 fs))) (sym next) ∙ all_more (λ f. is_bit (Some f)) (drop 1 fs) i here.0 here.1 bit c.loop-number.invariant.1)

pub returns-then-not-is_bit : goal.returns-then-not-is_bit
returns-then-not-is_bit c =
    let fs = fields_of c.args.row.now in
    let i = c.loop-number.number - 1 in
    let here = field_behind fs i (omega (arith, c.loop-number-test.true, c.loop-number.invariant.0)) in
    let at : suc i ≡ c.loop-number.number = omega (arith, c.loop-number.invariant.0) in
    let bit = ap is_bit (sym here.2 ∙ ap (λ n. field_at fs n) at) ∙ sym c.is_bit.ensures ∙ c.if-not-is_bit.true in
    sym (all_not (λ f. is_bit (Some f)) (drop 1 fs) i here.0 here.1 bit)

pub returns : goal.returns
returns c =
    let fs = fields_of c.args.row.now in
    let all = take_all (c.loop-number.number - 1) (drop 1 fs) (omega (arith, length-drop 1 fs)) in
    sym (sym (ap are_bits all) ∙ c.loop-number.invariant.1)
