use Rattle.std.proofs.Common.{length}
use Rattle.diagram_declarations.proofs.BodyReads.{Stands}
use Rattle.diagram_declarations.proofs.declaration.body_at.Given as goal

abbrev pub invariant-loop-word : goal.invariant-loop-word
invariant-loop-word l = Stands l.due l.rest l.text

abbrev pub decreases-loop-word : goal.decreases-loop-word
decreases-loop-word l = length l.rest
