use Rattle.std.proofs.Common.{◌≡◌, ◌<◌, arith}
use Rattle.io_text.proofs.Sending.{sends_err}
use Rattle.text_warnings.specs.Decided.{decided}
use Rattle.text_warnings.specs.Warnings.{row_of_names, rows_of_name}
use Rattle.text_warnings.proofs.Rows.{next_counted, next_cut, next_sent}
use Rattle.text_warnings.proofs.names.add_name.Goals as goal

pub returns-in_err-more-clause-sends : goal.returns-in_err-more-clause-sends
unfolding rows_of_name
returns-in_err-more-clause-sends g c =
    let within : c.loop-earlier.earlier < c.args.number = c.loop-earlier-test.true in
    sends_err _ _ _ _ _ _ c.from_residual.ensures.0 (next_cut _ _ _ _ _ (row_of_names decided c.args.decls.now c.args.number) c.loop-earlier.earlier (c.args.number) within c.loop-earlier.invariant.0 c.in_err-more.ensures.sends)

pub loop-earlier-preserved : goal.loop-earlier-preserved
loop-earlier-preserved g c =
    let inv = c.loop-earlier.invariant in (
      next_sent _ _ _ _ _ _ (row_of_names decided c.args.decls.now c.args.number) c.loop-earlier.earlier inv.0 c.in_ok-more.ensures.sends,
      next_counted (row_of_names decided c.args.decls.now c.args.number) c.loop-earlier.earlier _ _ inv.1 c.in_ok-more.ensures.count,
      omega (arith, inv.2, c.in_ok-more.ensures.few),
    )

pub returns-clause-sends : goal.returns-clause-sends
unfolding rows_of_name
returns-clause-sends g c =
    let all : c.loop-earlier.earlier ≡ c.args.number = omega (arith, c.loop-earlier-test.false, c.loop-earlier.auto.earlier-end) in
    rw all at c.loop-earlier.invariant.0

pub returns-clause-count : goal.returns-clause-count
unfolding rows_of_name
returns-clause-count g c =
    let all : c.loop-earlier.earlier ≡ c.args.number = omega (arith, c.loop-earlier-test.false, c.loop-earlier.auto.earlier-end) in
    rw all at c.loop-earlier.invariant.1
