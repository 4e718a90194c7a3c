use Rattle.text_warnings.specs.Similar.{DifferAt}
use Rattle.text_warnings.specs.Below.{SomeBelow}
use Rattle.text_warnings.proofs.similar.are_similar.Given as goal

abbrev pub invariant-loop-place : goal.invariant-loop-place
invariant-loop-place l = SomeBelow l.place (DifferAt l.a l.b) → ⊥
