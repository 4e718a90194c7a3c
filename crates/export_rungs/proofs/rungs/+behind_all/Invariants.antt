use Rattle.std.proofs.Common.{length, ◌-◌}
use Rattle.diagram_program.specs.Gates.{actions_of}
use Rattle.export_rungs.proofs.rungs.+behind_all.Given as goal

abbrev pub decreases-behind_all : goal.decreases-behind_all
decreases-behind_all l = length (actions_of l.scan.program.now l.rung) - l.done
