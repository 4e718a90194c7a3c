use Rattle.std.proofs.Common.{◌≡◌, ◌<◌, arith, length}
use Rattle.io_text.proofs.Sending.{sends_err}
use Rattle.text_warnings.specs.Decided.{decided}
use Rattle.text_warnings.specs.Warnings.{rows_at, place_rows}
use Rattle.text_warnings.proofs.Rows.{next_counted, next_cut, next_sent}
use Rattle.text_warnings.proofs.write.add_places.Goals as goal

pub returns-in_err-more-clause-sends : goal.returns-in_err-more-clause-sends
unfolding place_rows
returns-in_err-more-clause-sends g c =
    let within : c.loop-place.place < length c.args.program.now.sites = omega (arith, c.loop-place-test.true, c.rungs-place-end.ensures.value, c.rungs-place-end.ensures.whole.size) in
    sends_err _ _ _ _ _ _ c.from_residual.ensures.0 (next_cut _ _ _ _ _ (rows_at decided c.args.program.now) c.loop-place.place (length c.args.program.now.sites) within c.loop-place.invariant.0 c.in_err-more.ensures.sends)

pub loop-place-preserved : goal.loop-place-preserved
loop-place-preserved g c =
    let inv = c.loop-place.invariant in (
      next_sent _ _ _ _ _ _ (rows_at decided c.args.program.now) c.loop-place.place inv.0 c.in_ok-more.ensures.sends,
      next_counted (rows_at decided c.args.program.now) c.loop-place.place _ _ inv.1 c.in_ok-more.ensures.count,
      omega (arith, inv.2, c.in_ok-more.ensures.few),
    )

pub returns-clause-sends : goal.returns-clause-sends
unfolding place_rows
returns-clause-sends g c =
    let all : c.loop-place.place ≡ length c.args.program.now.sites = omega (arith, c.loop-place-test.false, c.loop-place.auto.place-end, c.rungs-place-end.ensures.value, c.rungs-place-end.ensures.whole.size) in
    rw all at c.loop-place.invariant.0

pub returns-clause-count : goal.returns-clause-count
unfolding place_rows
returns-clause-count g c =
    let all : c.loop-place.place ≡ length c.args.program.now.sites = omega (arith, c.loop-place-test.false, c.loop-place.auto.place-end, c.rungs-place-end.ensures.value, c.rungs-place-end.ensures.whole.size) in
    rw all at c.loop-place.invariant.1
