use Rattle.std.proofs.Common.{◌≡◌, take, map}
use Rattle.scan_cycle.proofs.state.same_kinds.Given as goal

abbrev pub invariant-loop-i : goal.invariant-loop-i
invariant-loop-i l = take l.i l.kinds ≡ map (λ i. i.kind) (take l.i l.instances)
