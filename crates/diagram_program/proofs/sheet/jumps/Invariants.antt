use Rattle.std.proofs.Common.{None}
use Rattle.diagram_program.specs.Program.{jump_of}
use Rattle.diagram_program.specs.Sheet.{drawing_of, IsOfEach}
use Rattle.diagram_program.proofs.sheet.jumps.Given as goal

abbrev pub invariant-loop-rung : goal.invariant-loop-rung
invariant-loop-rung l = IsOfEach l.rung None (jump_of (drawing_of l.sheet)) l.jumps.items
