use Rattle.std.proofs.Common.{◌≡◌}
use Rattle.diagram_program.specs.Gates.{leaps_below}
use Rattle.diagram_program.specs.Sheet.{drawing_of}
use Rattle.diagram_program.proofs.gates.leaps.Given as goal

abbrev pub invariant-loop-rung : goal.invariant-loop-rung
invariant-loop-rung l = l.leaps.items ≡ leaps_below (drawing_of l.sheet) l.rung
