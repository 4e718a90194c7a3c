use Rattle.std.proofs.Common.{◌≤◌, arith}
use Rattle.draw_check.proofs.Onward.{there}
use Rattle.export_check.specs.Course.{Leads}
use Rattle.export_check.proofs.Answering.{answers_on}
use Rattle.export_check.proofs.Groups.{end_by}
use Rattle.export_check.proofs.course.+is_rest.Goals as goal

pub returns-then-point-rungs : goal.returns-then-point-rungs
returns-then-point-rungs t c = λ is.
    let behind : c.args.plan.program.now.rungs ≤ c.args.point.rung = omega arith in
    end_by c.args.plan.program.now c.args.plan.variables c.args.plan.jumps.now c.args.point.rung c.args.point.number c.args.point.list.now behind (c.is_end.ensures is)

pub returns-in-Some : goal.returns-in-Some
returns-in-Some t c =
    let p = c.args.point in
    let leads = there c.in_ok-next.field-0 c.in-Some.next
    (λ k. Leads c.args.plan.program.now c.args.plan.variables c.args.plan.jumps.now p.rung p.number p.list.now k.rung k.number k.list.now) c.in-Some.is c.in_ok-next.ensures.leads in
    answers_on c.is_rest.result _ _ c.is_rest.ensures (λ is rest yes. leads (rest yes))
