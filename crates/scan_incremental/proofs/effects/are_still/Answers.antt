use Rattle.std.proofs.Common.{rules}
use Rattle.diagram_program.specs.Gates.{actions_of}
use Rattle.scan_cycle.specs.Programs.{diagram_of}
use Rattle.scan_incremental.specs.Resting.{IsStill}
use Rattle.scan_incremental.proofs.Rung.{all_more, all_taken}
use Rattle.scan_incremental.proofs.effects.are_still.Goals as goal

pub loop-action-preserved : goal.loop-action-preserved
loop-action-preserved c =
    let s = c.args.scene in
    all_more (IsStill (diagram_of s.program.now) s.now c.args.start.now c.args.links.now c.args.storage.now) (actions_of s.program.now s.rung) c.actions-action-items.result.now
    c.actions-action-items.ensures c.loop-action.action-index _ c.loop-action-test.true c.loop-action.invariant (c.is_still.ensures (search rules))

pub returns : goal.returns
returns c = λ t.
    let s = c.args.scene in
    all_taken (IsStill (diagram_of s.program.now) s.now c.args.start.now c.args.links.now c.args.storage.now) (actions_of s.program.now s.rung) c.actions-action-items.result.now
    c.actions-action-items.ensures c.loop-action.action-index c.loop-action-test.false c.loop-action.invariant
