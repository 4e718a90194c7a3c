use Rattle.std.proofs.Common.{◌≡◌, ◌∙◌, ◌<◌, ◌∷◌, [], None, Some, ap, append-nil, arith, length, length-append, subst, sym}
use Rattle.io_text.specs.Text.{lines_text}
use Rattle.io_text.proofs.Lines.{line_prefix, line_more}
use Rattle.io_text.specs.Buffer.{SendsAll}
use Rattle.text_cross_reference.specs.Uses.{use_row}
use Rattle.text_cross_reference.proofs.Rows.{places_all, places_apart, places_more, rows_before}
use Rattle.io_text.proofs.Sending.{sends_err}
use Rattle.text_cross_reference.proofs.uses.add_places.Goals as goal

pub loop-place-preserved-in_default : goal.loop-place-preserved-in_default
loop-place-preserved-in_default g c =
    let inv = c.loop-place.invariant in
    let h : c.loop-place.place < length c.args.program.now.sites = omega (arith, c.loop-place-test.true, c.rungs-place-end.ensures.value, c.rungs-place-end.ensures.whole.size) in
    let before = rows_before c.args.program.now c.args.name.now c.args.symbol c.loop-place.place in
    let same = places_more c.args.program.now c.args.name.now c.args.symbol c.loop-place.place None h (sym c.in_default.is ∙ c.use_at.ensures) ∙ append-nil before in (
      subst (λ rows. SendsAll (g.W.Sink.log c.args.writer.now) (g.W.Sink.log c.loop-place.writer) c.args.buffer.now c.loop-place.buffer (lines_text rows)) (sym same) inv.0,
      inv.1 ∙ ap length (sym same),
      omega (arith, inv.2),
    )

pub returns-in_err-add_row-clause-sends : goal.returns-in_err-add_row-clause-sends
returns-in_err-add_row-clause-sends g c = sends_err _ _ _ _ _ _ c.from_residual.ensures.0
    (let h : c.loop-place.place < length c.args.program.now.sites = omega (arith, c.loop-place-test.true, c.rungs-place-end.ensures.value, c.rungs-place-end.ensures.whole.size) in
    let cut = places_apart c.args.program.now c.args.name.now c.args.symbol c.loop-place.place (Some c.in-Some.used) h (sym c.in-Some.is ∙ c.use_at.ensures) in
    line_prefix _ _ _ _ _ _ _ _ _ cut.1 c.loop-place.invariant.0 c.in_err-add_row.ensures)

pub loop-place-preserved : goal.loop-place-preserved
loop-place-preserved g c =
    let inv = c.loop-place.invariant in
    let h : c.loop-place.place < length c.args.program.now.sites = omega (arith, c.loop-place-test.true, c.rungs-place-end.ensures.value, c.rungs-place-end.ensures.whole.size) in
    let before = rows_before c.args.program.now c.args.name.now c.args.symbol c.loop-place.place in
    let there = places_more c.args.program.now c.args.name.now c.args.symbol c.loop-place.place (Some c.in-Some.used) h (sym c.in-Some.is ∙ c.use_at.ensures) in (
      line_more _ _ _ _ _ _ _ _ _ there inv.0 c.in_ok-add_row.ensures,
      omega (arith, ap length there, length-append before (use_row c.args.name.now c.in-Some.used c.loop-place.place ∷ []), inv.1),
      omega (arith, inv.2),
    )

pub returns-clause-sends : goal.returns-clause-sends
returns-clause-sends g c =
    let h : c.loop-place.place ≡ length c.args.program.now.sites = omega (arith, c.rungs-place-end.ensures.value, c.rungs-place-end.ensures.whole.size) in
    subst (λ rows. SendsAll (g.W.Sink.log c.args.writer.now) (g.W.Sink.log c.loop-place.writer) c.args.buffer.now c.loop-place.buffer (lines_text rows))
    (places_all c.args.program.now c.args.name.now c.args.symbol c.loop-place.place h) c.loop-place.invariant.0

pub returns-clause-count : goal.returns-clause-count
returns-clause-count g c =
    let h : c.loop-place.place ≡ length c.args.program.now.sites = omega (arith, c.rungs-place-end.ensures.value, c.rungs-place-end.ensures.whole.size) in
    omega (arith, c.loop-place.invariant.1, ap length (places_all c.args.program.now c.args.name.now c.args.symbol c.loop-place.place h))
