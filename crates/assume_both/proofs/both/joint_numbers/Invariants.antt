use Rattle.std.proofs.Common.{◌≡◌, map, take}
use Rattle.assume_both.specs.Both.{joint_number}
use Rattle.assume_both.proofs.both.joint_numbers.Given as goal

abbrev pub invariant-loop-input : goal.invariant-loop-input
invariant-loop-input l = l.numbers.items ≡ map (joint_number l.pairs l.behind) (take l.input-index l.inputs)
