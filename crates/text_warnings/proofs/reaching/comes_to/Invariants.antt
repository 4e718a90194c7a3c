use Rattle.text_warnings.specs.Below.{SomeBelow}
use Rattle.text_warnings.specs.Reaching.{ComesFrom}
use Rattle.text_warnings.proofs.reaching.comes_to.Given as goal

abbrev pub invariant-loop-before : goal.invariant-loop-before
invariant-loop-before l = SomeBelow l.before (ComesFrom l.program l.rung) → ⊥
