use Rattle.std.proofs.Common.{◌≡◌, drop}
use Rattle.diagram_program.specs.Gates.{actions_of}
use Rattle.scan_cycle.specs.Programs.{diagram_of}
use Rattle.scan_cycle.specs.Gating.{changes_of}
use Rattle.scan_cycle.proofs.effects.changes.Given as goal

abbrev pub invariant-loop-action : goal.invariant-loop-action
invariant-loop-action l =
    let s = l.scene in
    let d = diagram_of s.program.now in
    let actions = actions_of s.program.now s.rung in
    changes_of d s.now l.start l.links (drop l.action-index actions) l.storage ≡ changes_of d s.now l.start l.links actions l.fn.storage
