use Rattle.std.proofs.Common.{ℕ, ◌<◌, sym, arith}
use Rattle.scan_incremental.proofs.Marking.{all_marked}
use Rattle.scan_incremental.proofs.marks.Users.new.Goals as goal

pub returns : goal.returns
returns c =
    let within : (j : ℕ) → j < c.rungs-rungs.result → j < c.loop-rung.rung = λ j lt. omega (arith, lt, c.loop-rung-test.false) in
    all_marked c.args.program.now c.loop-rung.users c.rungs-rungs.result (sym c.rungs-rungs.ensures.value) (λ j e lt. c.loop-rung.invariant j e (within j lt))
