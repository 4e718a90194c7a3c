use Rattle.std.proofs.Common.{◌≡◌}
use Rattle.diagram_program.specs.Sheet.{drawing_of}
use Rattle.diagram_program.specs.Steps.{steps_below}
use Rattle.diagram_program.proofs.steps.steps.Given as goal

abbrev pub invariant-loop-rung : goal.invariant-loop-rung
invariant-loop-rung l = l.steps.items ≡ steps_below (drawing_of l.sheet) l.rung
