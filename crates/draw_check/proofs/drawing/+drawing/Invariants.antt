use Rattle.std.proofs.Common.{◌+◌, ◌-◌, ◌*◌}
use Rattle.draw_check.proofs.drawing.+drawing.Given as goal

abbrev pub decreases-rungs_of : goal.decreases-rungs_of
decreases-rungs_of l = 4 * (l.plan.program.now.rungs - l.rung) + 2

abbrev pub decreases-rungs_from : goal.decreases-rungs_from
decreases-rungs_from l = 4 * (l.plan.program.now.rungs - l.main) + 1

abbrev pub decreases-rungs_of_selection : goal.decreases-rungs_of_selection
decreases-rungs_of_selection l = 4 * (l.plan.program.now.rungs - l.main)

abbrev pub decreases-end_of_arms : goal.decreases-end_of_arms
decreases-end_of_arms l = 4 * (l.plan.program.now.rungs - l.first) + 3
