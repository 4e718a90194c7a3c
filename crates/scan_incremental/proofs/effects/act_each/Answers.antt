use Rattle.std.proofs.Common.{sym, ◌∙◌, ◌≤◌, length}
use Rattle.diagram_program.specs.Gates.{actions_of}
use Rattle.scan_cycle.specs.Programs.{diagram_of}
use Rattle.scan_cycle.proofs.Turns.{changes_end}
use Rattle.scan_incremental.proofs.Rung.{acted}
use Rattle.scan_incremental.proofs.effects.act_each.Goals as goal

pub loop-action-preserved : goal.loop-action-preserved
loop-action-preserved c =
    let s = c.args.scene in
    let i = c.loop-action.invariant in
    let step =
    acted s.program.now c.requires.program c.args.users.now c.requires.users s.now s.rung c.args.start.now c.args.links.now c.actions-action-items.result.now
    c.actions-action-items.ensures c.loop-action.action-index _ c.loop-action-test.true c.loop-action.storage c.run_action.new.storage c.loop-action.next c.run_action.new.next
    c.run_action.ensures.stored c.run_action.ensures.woken i.awake i.rest in
    record { stored = step.0 ∙ i.stored; awake = step.1; rest = step.2 }

pub returns-clause-stored : goal.returns-clause-stored
returns-clause-stored c =
    let s = c.args.scene in
    let end : length (actions_of s.program.now s.rung) ≤ c.loop-action.action-index = rw (← c.actions-action-items.ensures) c.loop-action-test.false in
    sym (changes_end (diagram_of s.program.now) s.now c.args.start.now c.args.links.now c.loop-action.storage (actions_of s.program.now s.rung) c.loop-action.action-index end)
    ∙ c.loop-action.invariant.stored
