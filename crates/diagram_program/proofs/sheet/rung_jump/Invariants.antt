use Rattle.std.proofs.Common.{◌≡◌}
use Rattle.diagram_program.specs.Sheet.{drawing_of}
use Rattle.diagram_program.proofs.JumpLaws.{first_jump}
use Rattle.diagram_program.proofs.sheet.rung_jump.Given as goal

abbrev pub invariant-loop-at : goal.invariant-loop-at
invariant-loop-at l = l.jump ≡ first_jump (drawing_of l.sheet) l.rung l.at
