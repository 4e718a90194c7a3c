use Rattle.std.proofs.Common.{◌≡◌}
use Rattle.diagram_program.specs.Gates.{gates_before}
use Rattle.diagram_program.specs.Sheet.{drawing_of}
use Rattle.diagram_program.proofs.gates.rung_gates.Given as goal

abbrev pub invariant-loop-at : goal.invariant-loop-at
invariant-loop-at l = l.gates.items ≡ gates_before (drawing_of l.sheet) l.rung l.at
