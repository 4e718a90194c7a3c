use Rattle.text_warnings.specs.Warned.{HasCells}
use Rattle.text_warnings.specs.Below.{SomeBelow}
use Rattle.text_warnings.proofs.apart.has_cells_above.Given as goal

abbrev pub invariant-loop-upper : goal.invariant-loop-upper
invariant-loop-upper l = SomeBelow l.upper (HasCells l.program l.rung) → ⊥
