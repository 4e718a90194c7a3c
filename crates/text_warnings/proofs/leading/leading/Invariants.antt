use Rattle.text_warnings.specs.Leading.{AreLeading}
use Rattle.text_warnings.proofs.leading.leading.Given as goal

abbrev pub invariant-loop-behind : goal.invariant-loop-behind
invariant-loop-behind l = AreLeading l.program l.rung l.behind l.leading
