use Rattle.std.proofs.Common.{[], map}
use Rattle.diagram_program.specs.Gates.{gates_of}
use Rattle.diagram_program.specs.Sheet.{drawing_of, IsOfEach}
use Rattle.diagram_program.proofs.gates.gates.Given as goal

abbrev pub invariant-loop-rung : goal.invariant-loop-rung
invariant-loop-rung l = IsOfEach l.rung [] (gates_of (drawing_of l.sheet)) (map (λ x. x.items) l.gates.items)
