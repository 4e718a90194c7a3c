use Rattle.std.proofs.Common.{take}
use Rattle.export_rungs.proofs.By.{latch_by}
use Rattle.export_rungs.proofs.latch.behind_latches.Goals as goal

pub returns-clause-does : goal.returns-clause-does
returns-clause-does c =
    latch_by c.args.at.scan.program.now c.args.at.scan.variables c.args.at.scan.jumps c.args.at.rung c.args.at.known.now (take c.args.done c.args.actions.now) (take c.in_ok-after.after c.args.actions.now)
    c.in_ok-condition.condition.now c.in_ok-condition.accepted.now c.in_ok-condition.next.now c.args.list.now c.in_ok-condition.ensures c.in_ok-after.ensures.latches
