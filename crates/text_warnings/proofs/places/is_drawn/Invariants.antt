use Rattle.std.proofs.Common.{◌≡◌, Some}
use Rattle.diagram_program.specs.Program.{block_in, cell_in}
use Rattle.text_warnings.specs.Below.{SomeBelow}
use Rattle.text_warnings.proofs.places.is_drawn.Given as goal

abbrev pub invariant-loop-place : goal.invariant-loop-place
invariant-loop-place l = SomeBelow l.place (λ i. block_in (cell_in l.program i) ≡ Some l.inst) → ⊥
