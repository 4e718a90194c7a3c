use Rattle.text_warnings.specs.Warned.{IsJoinedAt}
use Rattle.text_warnings.specs.Below.{SomeBelow}
use Rattle.text_warnings.proofs.apart.is_joined_up.Given as goal

abbrev pub invariant-loop-column : goal.invariant-loop-column
invariant-loop-column l = SomeBelow l.column (IsJoinedAt l.program l.rung l.row) → ⊥
