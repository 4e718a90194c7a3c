use Rattle.std.proofs.Common.{refl}
use Rattle.draw_check.proofs.Onward.{onward_ok, there}
use Rattle.export_check.specs.Course.{IsStep}
use Rattle.export_check.proofs.Groups.{body_more, body_one}
use Rattle.export_check.proofs.course.+behind_body.Goals as goal

pub returns-then-are_alike : goal.returns-then-are_alike
returns-then-are_alike t c =
    let d = c.args.plan.program.now in
    let p = c.args.point in
    let next = c.in-Some.next in
    onward_ok c.behind_body.result _ _ c.behind_body.ensures
    (λ end is. body_more d c.args.plan.variables c.args.plan.jumps.now p.rung p.number next.rung next.number end.rung end.number p.list.now next.list.now
    (there c.in_ok-next.field-0 c.in-Some.next (λ k. IsStep d c.args.plan.variables c.args.plan.jumps.now p.rung p.number p.list.now k.rung k.number k.list.now) c.in-Some.is c.in_ok-next.ensures)
    (c.if-are_alike.ensures refl) is)

pub returns : goal.returns
returns t c =
    let d = c.args.plan.program.now in
    let p = c.args.point in
    let next = c.in-Some.next in
    body_one d c.args.plan.variables c.args.plan.jumps.now p.rung p.number next.rung next.number p.list.now next.list.now
    (there c.in_ok-next.field-0 c.in-Some.next (λ k. IsStep d c.args.plan.variables c.args.plan.jumps.now p.rung p.number p.list.now k.rung k.number k.list.now) c.in-Some.is c.in_ok-next.ensures)
    (c.if-not-is_end.ensures refl)
