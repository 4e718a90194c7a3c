use Rattle.std.proofs.Common.{None}
use Rattle.diagram_program.specs.Gates.{exit_of}
use Rattle.diagram_program.specs.Sheet.{drawing_of, IsOfEach}
use Rattle.diagram_program.proofs.gates.exits.Given as goal

abbrev pub invariant-loop-rung : goal.invariant-loop-rung
invariant-loop-rung l = IsOfEach l.rung None (exit_of (drawing_of l.sheet)) l.exits.items
