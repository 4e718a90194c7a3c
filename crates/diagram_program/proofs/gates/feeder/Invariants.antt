use Rattle.std.proofs.Common.{◌≡◌, ◌-◌, ◌*◌}
use Rattle.diagram_program.specs.declared.geometry.TheConstants.{ROWS}
use Rattle.diagram_program.specs.Program.{feeds}
use Rattle.diagram_program.specs.Gates.{last_of}
use Rattle.diagram_program.specs.Sheet.{drawing_of}
use Rattle.diagram_program.proofs.gates.feeder.Given as goal

abbrev pub invariant-loop-from : goal.invariant-loop-from
invariant-loop-from l = l.last ≡ last_of (feeds (drawing_of l.sheet) l.at.rung l.at.row l.at.column) (ROWS * (l.at.column - 1)) l.from
