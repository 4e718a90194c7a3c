use Rattle.std.proofs.Common.{refl, arith}
use Rattle.draw_check.proofs.Onward.{onward_ok}
use Rattle.export_check.proofs.Groups.{lead_step}
use Rattle.export_check.proofs.course.behind_next.Goals as goal

pub returns-then-are_aside : goal.returns-then-are_aside
returns-then-are_aside c =
    let d = c.args.plan.program.now in
    let p = c.args.point in
    record {
      below = onward_ok c.behind.result _ _ c.behind.ensures (λ next step. omega (arith, step.next));
      leads = onward_ok c.behind.result _ _ c.behind.ensures
          (λ next. lead_step d c.args.plan.variables c.args.plan.jumps.now p.rung p.number next.rung next.number p.list.now next.list.now (c.if-are_aside.ensures refl));
    }
