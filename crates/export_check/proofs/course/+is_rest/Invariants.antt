use Rattle.std.proofs.Common.{◌-◌}
use Rattle.export_check.proofs.course.+is_rest.Given as goal

abbrev pub decreases-is_rest : goal.decreases-is_rest
decreases-is_rest l = l.plan.program.now.rungs - l.point.rung
