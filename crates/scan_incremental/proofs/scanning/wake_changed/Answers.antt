use Rattle.std.proofs.Common.{◌≤◌, length, arith}
use Rattle.scan_incremental.proofs.Giving.{same_past}
use Rattle.scan_incremental.proofs.scanning.wake_changed.Goals as goal

pub returns-clause-same : goal.returns-clause-same
returns-clause-same c = λ j n v k on.
    let end : length c.args.before.now ≤ c.loop-var.var = c.loop-var-test.false in
    let stored : length c.args.storage.now.values ≤ c.loop-var.var = omega (arith, end, c.requires) in
    same_past c.args.storage.now.values c.args.before.now v c.loop-var.var stored end (λ lt. c.loop-var.invariant.same j n v lt k on)
