use Rattle.std.proofs.Common.{◌≡◌, ◌∙◌, ◌+◌, ◌-◌, ap, arith, drop, suc, sym, take}
use Rattle.csv.specs.Records.{fields_of}
use Rattle.io_text.specs.Text.{after_commas}
use Rattle.io_text.proofs.Sending.{sends_prefix, sends_more, sends_same, sends_err}
use Rattle.text_expected.proofs.Fields.{others_cut, others_more}
use Rattle.text_expected.proofs.telling.add_others.Goals as goal

pub returns-in_err-add_field : goal.returns-in_err-add_field
returns-in_err-add_field g c = sends_err _ _ _ _ _ _ c.from_residual.ensures.0
    (let fs = fields_of c.args.row.now in
    let i = c.loop-number.number - 1 in
    let at : suc i ≡ c.loop-number.number = omega (arith, c.loop-number.invariant.0) in
    sends_prefix _ _ _ _ _ _ (after_commas (take i (drop 1 fs))) _ (after_commas (drop (suc i) (drop 1 fs)))
    (others_cut fs i (omega (arith, at, c.loop-number-test.true, c.len-number-end.ensures))) c.loop-number.invariant.1
    (rw (c.field.ensures, ← at) at c.in_err-add_field.ensures))

pub loop-number-preserved : goal.loop-number-preserved
loop-number-preserved g c =
    let fs = fields_of c.args.row.now in
    let i = c.loop-number.number - 1 in
    let at : suc i ≡ c.loop-number.number = omega (arith, c.loop-number.invariant.0) in
    let next : suc i ≡ c.loop-number.number + 1 - 1 = omega (arith, c.loop-number.invariant.0) in
    let more = others_more fs i (omega (arith, at, c.loop-number-test.true, c.len-number-end.ensures)) in (
      omega arith,
      sends_same _ _ _ _ _ _ (sym more ∙ ap (λ n. after_commas (take n (drop 1 fs))) next)
          (sends_more _ _ _ _ _ _ (after_commas (take i (drop 1 fs))) _ c.loop-number.invariant.1 (rw (c.field.ensures, ← at) at c.in_ok-add_field.ensures)),
    )
