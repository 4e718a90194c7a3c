use Rattle.diagram_program.specs.Gates.{actions_of}
use Rattle.diff_rungs.proofs.Acting.{spoil_next, spoil_none}
use Rattle.diff_rungs.proofs.writing.spoil_rung.Goals as goal

pub loop-action-init : goal.loop-action-init
loop-action-init c = spoil_none c.args.side c.args.matching.now (actions_of c.args.program.now c.args.rung) c.args.marks.now

pub loop-action-preserved : goal.loop-action-preserved
loop-action-preserved c =
    spoil_next c.args.side c.args.matching.now c.actions-action-items.result.now (actions_of c.args.program.now c.args.rung) c.loop-action.action-index _ c.args.marks.now
    c.loop-action.marks c.spoil_cell.new.marks c.actions-action-items.ensures c.loop-action-test.true c.loop-action.invariant c.spoil_cell.ensures
