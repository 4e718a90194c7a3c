use Rattle.text_causes.specs.Fours.{AreFours}
use Rattle.text_causes.proofs.table.fill_fours.Given as goal

abbrev pub invariant-loop-number : goal.invariant-loop-number
invariant-loop-number l = AreFours l.texts l.number
