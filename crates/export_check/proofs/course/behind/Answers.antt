use Rattle.std.proofs.Common.{◌<◌, length, arith}
use Rattle.export_rungs.specs.Rungs.{Does}
use Rattle.draw_check.proofs.Onward.{there}
use Rattle.export_check.proofs.Stepping.{step_by}
use Rattle.export_check.proofs.course.behind.Goals as goal

pub returns-in-Some-count_below : goal.returns-in-Some-count_below
returns-in-Some-count_below c =
    let d = c.args.plan.program.now in
    let within : c.args.point.rung < c.args.plan.program.now.rungs = omega arith in
    step_by d c.args.plan.variables c.args.plan.jumps.now c.args.point.rung c.args.point.number c.args.point.list.now c.in-Some.list.now within
    (there c.in_ok-list.field-0 c.in-Some.list
    (λ rest. Does d c.args.plan.variables (length c.args.plan.jumps.now) c.args.point.rung c.args.point.number c.args.point.list.now rest.now) c.in-Some.is c.in_ok-list.ensures)
    c.in-Some-count_below.number c.in-Some-count_below.ensures
