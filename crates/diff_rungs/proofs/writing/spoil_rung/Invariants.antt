use Rattle.std.proofs.Common.{take}
use Rattle.diagram_program.specs.Gates.{actions_of}
use Rattle.diff_rungs.specs.Writing.{AreActionsSpoiled}
use Rattle.diff_rungs.proofs.writing.spoil_rung.Given as goal

abbrev pub invariant-loop-action : goal.invariant-loop-action
invariant-loop-action l = AreActionsSpoiled l.side l.matching (take l.action-index (actions_of l.program l.rung)) l.fn.marks l.marks
