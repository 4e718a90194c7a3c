use Rattle.text_warnings.specs.Below.{SomeBelow}
use Rattle.text_warnings.specs.Reaching.{WiresFrom}
use Rattle.text_warnings.proofs.wired.is_wired.Given as goal

abbrev pub invariant-loop-from : goal.invariant-loop-from
invariant-loop-from l = SomeBelow l.from (WiresFrom l.program l.at.rung l.at.row l.at.column) → ⊥
