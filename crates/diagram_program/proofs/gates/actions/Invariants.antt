use Rattle.std.proofs.Common.{[], map}
use Rattle.diagram_program.specs.Gates.{actions_of}
use Rattle.diagram_program.specs.Sheet.{drawing_of, IsOfEach}
use Rattle.diagram_program.proofs.gates.actions.Given as goal

abbrev pub invariant-loop-rung : goal.invariant-loop-rung
invariant-loop-rung l = IsOfEach l.rung [] (actions_of (drawing_of l.sheet)) (map (λ x. x.items) l.actions.items)
