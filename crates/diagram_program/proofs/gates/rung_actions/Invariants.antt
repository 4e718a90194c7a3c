use Rattle.std.proofs.Common.{◌≡◌}
use Rattle.diagram_program.specs.Gates.{actions_before}
use Rattle.diagram_program.specs.Sheet.{drawing_of}
use Rattle.diagram_program.proofs.gates.rung_actions.Given as goal

abbrev pub invariant-loop-at : goal.invariant-loop-at
invariant-loop-at l = l.actions.items ≡ actions_before (drawing_of l.sheet) l.rung l.at
