use Rattle.std.proofs.Common.{◌≡◌}
use Rattle.diagram_program.specs.Sheet.{drawing_of}
use Rattle.diagram_program.specs.Steps.{turns_before}
use Rattle.diagram_program.proofs.steps.turns.Given as goal

abbrev pub invariant-loop-earlier : goal.invariant-loop-earlier
invariant-loop-earlier l = l.turns ≡ turns_before (drawing_of l.sheet) l.rung l.earlier
