use Rattle.text_causes.specs.Kept.{ArePairs}
use Rattle.text_causes.proofs.kept.fill_pairs.Given as goal

abbrev pub invariant-loop-low : goal.invariant-loop-low
invariant-loop-low l = ArePairs l.pairs l.low
