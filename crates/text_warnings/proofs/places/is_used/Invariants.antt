use Rattle.diagram_program.specs.Program.{cell_in}
use Rattle.text_warnings.specs.Warned.{Draws}
use Rattle.text_warnings.specs.Below.{SomeBelow}
use Rattle.text_warnings.proofs.places.is_used.Given as goal

abbrev pub invariant-loop-place : goal.invariant-loop-place
invariant-loop-place l = SomeBelow l.place (λ i. Draws l.symbol (cell_in l.program i)) → ⊥
