use Rattle.std.proofs.Common.{ap, arith, length, length-append, refl, subst, take, take_all}
use Rattle.std.specs.List.{flat_map}
use Rattle.io_text.specs.Text.{lines_text}
use Rattle.io_text.specs.Buffer.{SendsAll}
use Rattle.io_text.proofs.Items.{rows_apart, rows_prefix, rows_more, rows_sent}
use Rattle.io_text.proofs.Sending.{sends_err}
use Rattle.text_cross_reference.specs.Uses.{symbols_of}
use Rattle.text_warnings.specs.Decided.{decided}
use Rattle.text_warnings.specs.Warnings.{row_if_unused, unused_rows}
use Rattle.text_warnings.proofs.unused.add_unused.Goals as goal

pub returns-in_err-more-clause-sends : goal.returns-in_err-more-clause-sends
unfolding unused_rows
returns-in_err-more-clause-sends g c = sends_err _ _ _ _ _ _ c.from_residual.ensures.0
    (let p = c.args.program.now in
    let here = rw c.decls-decls.ensures at c.symbol_at.ensures in
    rows_prefix _ _ _ _ _ _ _ _ _ (rows_apart (row_if_unused decided p) (symbols_of p.decls) c.loop-number.number c.symbol_at.result _ here refl) c.loop-number.invariant.0 c.in_err-more.ensures.sends)

pub loop-number-preserved : goal.loop-number-preserved
loop-number-preserved g c =
    let inv = c.loop-number.invariant in
    let p = c.args.program.now in
    let here = rw c.decls-decls.ensures at c.symbol_at.ensures in
    let more = rows_more (row_if_unused decided p) (symbols_of p.decls) c.loop-number.number c.symbol_at.result _ here refl in (
      rows_sent _ _ _ _ _ _ _ _ _ more inv.0 c.in_ok-more.ensures.sends,
      omega (
        arith,
        ap length more,
        length-append (flat_map (row_if_unused decided p) (take c.loop-number.number (symbols_of p.decls))) (row_if_unused decided p c.symbol_at.result),
        inv.1,
        c.in_ok-more.ensures.count,
      ),
      omega (arith, inv.2, c.in_ok-more.ensures.few),
    )

pub returns-clause-sends : goal.returns-clause-sends
unfolding unused_rows
returns-clause-sends g c =
    let p = c.args.program.now in
    let all = take_all c.loop-number.number (symbols_of p.decls) (omega (arith, rw c.decls-decls.ensures at c.symbol_count-number-end.ensures.value)) in
    subst (λ symbols. SendsAll (g.W.Sink.log c.args.writer.now) (g.W.Sink.log c.loop-number.writer) c.args.buffer.now c.loop-number.buffer (lines_text (flat_map (row_if_unused decided p) symbols)))
    all c.loop-number.invariant.0

pub returns-clause-count : goal.returns-clause-count
unfolding unused_rows
returns-clause-count g c =
    let p = c.args.program.now in
    let all = take_all c.loop-number.number (symbols_of p.decls) (omega (arith, rw c.decls-decls.ensures at c.symbol_count-number-end.ensures.value)) in
    omega (arith, c.loop-number.invariant.1, ap (λ symbols. length (flat_map (row_if_unused decided p) symbols)) all)
