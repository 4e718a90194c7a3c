use Rattle.std.proofs.Common.{◌≡◌, drop, true}
use Rattle.scan_symbolic.specs.Gating.{guard_by}
use Rattle.scan_symbolic.proofs.steps.guard_by.Given as goal

abbrev pub invariant-loop-leap : goal.invariant-loop-leap
invariant-loop-leap g l =
    let o = g.S.Operations.algebra in
    guard_by o l.taken l.rung (drop l.leap-index l.leaps) l.all ≡ guard_by o l.taken l.rung l.leaps (o.known true)
