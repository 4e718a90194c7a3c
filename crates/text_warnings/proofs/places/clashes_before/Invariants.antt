use Rattle.diagram_program.specs.Program.{cell_in}
use Rattle.text_warnings.specs.Warned.{Clashes}
use Rattle.text_warnings.specs.Below.{SomeBelow}
use Rattle.text_warnings.proofs.places.clashes_before.Given as goal

abbrev pub invariant-loop-place : goal.invariant-loop-place
invariant-loop-place l = SomeBelow l.place (λ i. Clashes l.mode l.var (cell_in l.program i)) → ⊥
