use Rattle.std.proofs.Common.{◌≡◌, take}
use Rattle.causes_one_scan.specs.Looking.{alike}
use Rattle.causes_one_scan.proofs.relevant.alike.Given as goal

abbrev pub invariant-loop-input : goal.invariant-loop-input
invariant-loop-input l = l.found.items ≡ alike (take l.input l.image) (take l.input l.inputs)
