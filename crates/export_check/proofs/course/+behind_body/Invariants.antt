use Rattle.std.proofs.Common.{◌-◌}
use Rattle.export_check.proofs.course.+behind_body.Given as goal

abbrev pub decreases-behind_body : goal.decreases-behind_body
decreases-behind_body l = l.plan.program.now.rungs - l.point.rung
