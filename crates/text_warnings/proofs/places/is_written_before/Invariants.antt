use Rattle.std.proofs.Common.{◌≡◌, true}
use Rattle.diagram_program.specs.Program.{cell_in, is_coil_of}
use Rattle.text_warnings.specs.Below.{SomeBelow}
use Rattle.text_warnings.proofs.places.is_written_before.Given as goal

abbrev pub invariant-loop-place : goal.invariant-loop-place
invariant-loop-place l = SomeBelow l.place (λ i. is_coil_of l.var (cell_in l.program i) ≡ true) → ⊥
