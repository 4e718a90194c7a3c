use Rattle.std.proofs.Common.{◌≡◌, drop}
use Rattle.diagram_program.specs.Gates.{actions_of}
use Rattle.scan_cycle.specs.Programs.{diagram_of}
use Rattle.scan_partial.specs.Evaluating.{changes_by}
use Rattle.scan_partial.proofs.effects.changes.Given as goal

abbrev pub invariant-loop-action : goal.invariant-loop-action
invariant-loop-action g l =
    let o = g.S.Operations.algebra in
    let w = g.B.Keep.keeping in
    let s = l.scene in
    let d = diagram_of s.program.now in
    let actions = actions_of s.program.now s.rung in
    changes_by o w d s.now l.start l.guard l.links (drop l.action-index actions) l.known ≡ changes_by o w d s.now l.start l.guard l.links actions l.fn.known
