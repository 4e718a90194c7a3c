use Rattle.std.proofs.Common.{◌≡◌, ◌+◌, ◌<◌, ap, arith, drop, get_or, length, length-append, refl, subst, suc, take, take_all}
use Rattle.std.specs.List.{flat_map}
use Rattle.std.proofs.lemmas.Option.{slice_get-get_or}
use Rattle.io_text.specs.Text.{lines_text}
use Rattle.io_text.specs.Buffer.{SendsAll}
use Rattle.io_text.proofs.Sending.{sends_err}
use Rattle.text_warnings.specs.declared.warning.Warning.{Warning}
use Rattle.text_warnings.specs.declared.warning.Warning.TheVariants.{LooseCrossing}
use Rattle.text_warnings.specs.Decided.{decided}
use Rattle.text_warnings.specs.Warnings.{all_warnings, row_if_warned, rows_at}
use Rattle.io_text.proofs.Items.{rows_apart, rows_more, rows_prefix, rows_sent}
use Rattle.text_warnings.proofs.write.add_place.Goals as goal

pub returns-in_err-more-clause-sends : goal.returns-in_err-more-clause-sends
unfolding rows_at
returns-in_err-more-clause-sends g c = sends_err _ _ _ _ _ _ c.from_residual.ensures.0
    (let rows = row_if_warned decided c.args.program.now c.args.place in
    let i = c.loop-warning.warning-index in
    let h : i < length all_warnings = rw c.as_slice-warning-items.ensures at c.loop-warning-test.true in
    let here : Warning = get_or all_warnings i LooseCrossing in
    rows_prefix _ _ _ _ _ (flat_map rows (take i all_warnings)) (flat_map rows all_warnings) (rows here) (flat_map rows (drop (suc i) all_warnings))
    (rows_apart rows all_warnings i here (rows here) (slice_get-get_or all_warnings i LooseCrossing h) refl)
    c.loop-warning.invariant.0 (rw c.as_slice-warning-items.ensures at c.in_err-more.ensures.sends))

pub loop-warning-preserved : goal.loop-warning-preserved
loop-warning-preserved g c =
    let inv = c.loop-warning.invariant in
    let rows = row_if_warned decided c.args.program.now c.args.place in
    let i = c.loop-warning.warning-index in
    let here : Warning = get_or all_warnings i LooseCrossing in
    let h : i < length all_warnings = rw c.as_slice-warning-items.ensures at c.loop-warning-test.true in
    let more = rows_more rows all_warnings i here (rows here) (slice_get-get_or all_warnings i LooseCrossing h) refl in
    let count : c.in_ok-more.more ≡ length (rows here) = rw c.as_slice-warning-items.ensures at c.in_ok-more.ensures.count in (
      rows_sent _ _ _ _ _ _ (flat_map rows (take i all_warnings)) (flat_map rows (take (i + 1) all_warnings)) (rows here) more inv.0 (rw c.as_slice-warning-items.ensures at c.in_ok-more.ensures.sends),
      omega (arith, ap length more, length-append (flat_map rows (take i all_warnings)) (rows here), inv.1, count),
      omega (arith, inv.2, c.in_ok-more.ensures.few),
    )

pub returns-clause-sends : goal.returns-clause-sends
unfolding rows_at
returns-clause-sends g c =
    let i = c.loop-warning.warning-index in
    let all = take_all i all_warnings (rw c.as_slice-warning-items.ensures at c.loop-warning-test.false) in
    subst (λ some. SendsAll (g.W.Sink.log c.args.writer.now) (g.W.Sink.log c.loop-warning.writer) c.args.buffer.now c.loop-warning.buffer (lines_text (flat_map (row_if_warned decided c.args.program.now c.args.place) some)))
    all c.loop-warning.invariant.0

pub returns-clause-count : goal.returns-clause-count
unfolding rows_at
returns-clause-count g c =
    let i = c.loop-warning.warning-index in
    let all = take_all i all_warnings (rw c.as_slice-warning-items.ensures at c.loop-warning-test.false) in
    omega (arith, c.loop-warning.invariant.1, ap (λ some. length (flat_map (row_if_warned decided c.args.program.now c.args.place) some)) all)
