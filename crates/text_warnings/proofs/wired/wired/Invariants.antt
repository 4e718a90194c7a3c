use Rattle.text_warnings.specs.Reaching.{AreWired}
use Rattle.text_warnings.proofs.wired.wired.Given as goal

abbrev pub invariant-loop-before : goal.invariant-loop-before
invariant-loop-before l = AreWired l.program l.rung l.before l.wired
