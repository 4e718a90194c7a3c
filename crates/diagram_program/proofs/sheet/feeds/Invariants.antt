use Rattle.std.proofs.Common.{◌≡◌}
use Rattle.diagram_program.specs.Program.{joined}
use Rattle.diagram_program.specs.Sheet.{drawing_of}
use Rattle.diagram_program.proofs.sheet.feeds.Given as goal

abbrev pub invariant-loop-i : goal.invariant-loop-i
invariant-loop-i l = l.all ≡ joined (drawing_of l.sheet) l.at.rung l.first l.at.column l.i
