use Rattle.std.proofs.Common.{◌≡◌, ◌==◌, drop, find}
use Rattle.diff_matching.specs.declared.matching.Pair.{Pair}
use Rattle.assume_both.proofs.both.joint_number.Given as goal

abbrev pub invariant-loop-pair : goal.invariant-loop-pair
invariant-loop-pair l = find (λ (x : Pair). x.new == l.var) (drop l.pair-index l.pairs) ≡ find (λ (x : Pair). x.new == l.var) l.pairs
