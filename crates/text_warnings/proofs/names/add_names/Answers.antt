use Rattle.std.proofs.Common.{◌≡◌, ◌<◌, arith, length}
use Rattle.diagram_declarations.specs.Decls.{names_of}
use Rattle.io_text.proofs.Sending.{sends_err}
use Rattle.text_warnings.specs.Decided.{decided}
use Rattle.text_warnings.specs.Warnings.{rows_of_name, name_rows}
use Rattle.text_warnings.proofs.Rows.{next_counted, next_cut, next_sent}
use Rattle.text_warnings.proofs.names.add_names.Goals as goal

pub returns-in_err-more-clause-sends : goal.returns-in_err-more-clause-sends
unfolding name_rows
returns-in_err-more-clause-sends g c =
    let within : c.loop-number.number < length (names_of c.args.decls.now) = rw c.count_names-number-end.ensures.value at c.loop-number-test.true in
    sends_err _ _ _ _ _ _ c.from_residual.ensures.0 (next_cut _ _ _ _ _ (rows_of_name decided c.args.decls.now) c.loop-number.number (length (names_of c.args.decls.now)) within c.loop-number.invariant.0 c.in_err-more.ensures.sends)

pub loop-number-preserved : goal.loop-number-preserved
loop-number-preserved g c =
    let inv = c.loop-number.invariant in (
      next_sent _ _ _ _ _ _ (rows_of_name decided c.args.decls.now) c.loop-number.number inv.0 c.in_ok-more.ensures.sends,
      next_counted (rows_of_name decided c.args.decls.now) c.loop-number.number _ _ inv.1 c.in_ok-more.ensures.count,
      omega (arith, inv.2, c.in_ok-more.ensures.few),
    )

pub returns-clause-sends : goal.returns-clause-sends
unfolding name_rows
returns-clause-sends g c =
    let all : c.loop-number.number ≡ length (names_of c.args.decls.now) = omega (arith, c.loop-number-test.false, c.loop-number.auto.number-end, c.count_names-number-end.ensures.value) in
    rw all at c.loop-number.invariant.0

pub returns-clause-count : goal.returns-clause-count
unfolding name_rows
returns-clause-count g c =
    let all : c.loop-number.number ≡ length (names_of c.args.decls.now) = omega (arith, c.loop-number-test.false, c.loop-number.auto.number-end, c.count_names-number-end.ensures.value) in
    rw all at c.loop-number.invariant.1
