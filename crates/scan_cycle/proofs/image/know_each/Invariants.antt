use Rattle.std.proofs.Common.{◌≡◌, take, map}
use Rattle.scan_cycle.proofs.image.know_each.Given as goal

abbrev pub invariant-loop-number : goal.invariant-loop-number
invariant-loop-number g l = take l.number l.signals ≡ map g.S.Operations.algebra.known (take l.number l.stored)
