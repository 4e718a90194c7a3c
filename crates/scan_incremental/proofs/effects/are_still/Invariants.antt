use Rattle.std.proofs.Common.{All, take}
use Rattle.diagram_program.specs.Gates.{actions_of}
use Rattle.scan_cycle.specs.Programs.{diagram_of}
use Rattle.scan_incremental.specs.Resting.{IsStill}
use Rattle.scan_incremental.proofs.effects.are_still.Given as goal

abbrev pub invariant-loop-action : goal.invariant-loop-action
invariant-loop-action l =
    let s = l.scene in
    All (IsStill (diagram_of s.program.now) s.now l.start l.links l.storage) (take l.action-index (actions_of s.program.now s.rung))
