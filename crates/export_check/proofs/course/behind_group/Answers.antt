use Rattle.std.proofs.Common.{refl}
use Rattle.draw_check.proofs.Onward.{there}
use Rattle.export_check.specs.Course.{IsBody}
use Rattle.export_check.proofs.Groups.{body_below, lead_select}
use Rattle.export_check.proofs.course.behind_group.Goals as goal

pub returns : goal.returns
returns c =
    let d = c.args.plan.program.now in
    let p = c.args.point in
    let group = c.in-Some.group in
    let end = c.in-Some-2.end in
    let is = there c.in_ok-end.field-0 c.in-Some-2.end (λ k. IsBody d c.args.plan.variables c.args.plan.jumps.now p.rung p.number group.body.now k.rung k.number) c.in-Some-2.is c.in_ok-end.ensures in
    record {
      below = body_below d c.args.plan.variables c.args.plan.jumps.now p.rung p.number end.rung end.number group.body.now is;
      leads = lead_select d c.args.plan.variables c.args.plan.jumps.now p.rung p.number end.rung end.number c.args.plan.first group.guard.now group.body.now group.next.now p.list.now
          c.requires.flags c.in-Some.ensures (c.if-not-is_guard.ensures refl) is;
    }
