use Rattle.std.proofs.Common.{◌≡◌, ◌≤◌, length}
use Rattle.diagram_declarations.specs.declared.text.Within.TheVariants as within
use Rattle.diagram_declarations.specs.ReadText.{skip_from}
use Rattle.diagram_declarations.proofs.text.skip.Given as goal

abbrev pub invariant-loop-rest : goal.invariant-loop-rest
invariant-loop-rest l = (skip_from l.within l.rest ≡ skip_from within.Blanks l.text) × (length l.rest ≤ length l.text)

abbrev pub decreases-loop-rest : goal.decreases-loop-rest
decreases-loop-rest l = length l.rest
