use Rattle.text_causes.specs.Kept.{AreTails}
use Rattle.text_causes.proofs.kept.fill_tails.Given as goal

abbrev pub invariant-loop-bits : goal.invariant-loop-bits
invariant-loop-bits l = AreTails l.tails l.bits
