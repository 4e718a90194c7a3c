use Rattle.text_warnings.specs.Warned.{HasCellAt}
use Rattle.text_warnings.specs.Below.{SomeBelow}
use Rattle.text_warnings.proofs.apart.has_cells.Given as goal

abbrev pub invariant-loop-column : goal.invariant-loop-column
invariant-loop-column l = SomeBelow l.column (HasCellAt l.program l.rung l.row) → ⊥
