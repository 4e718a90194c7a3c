use Rattle.std.proofs.Common.{List, ap, arith, length, subst, sym, take, ◌∙◌}
use Rattle.diagram_program.specs.declared.gates.Action.{Action}
use Rattle.diagram_program.specs.Gates.{actions_of}
use Rattle.draw_check.proofs.Onward.{onward_ok}
use Rattle.export_power.specs.declared.known.Known.{Known}
use Rattle.export_rungs.specs.Steps.{Comes, Go}
use Rattle.export_rungs.proofs.Finishing.{comes_on}
use Rattle.export_rungs.proofs.Latched.{all_taken}
use Rattle.export_rungs.proofs.rungs.+behind_all.Goals as goal

pub returns-then-is_none : goal.returns-then-is_none
returns-then-is_none t c = λ first before.
    subst (λ (xs : List Action). Comes c.args.scan.program.now c.args.scan.variables c.args.scan.jumps c.args.rung c.args.known.now.items xs first c.args.list.now)
    (all_taken (actions_of c.args.scan.program.now c.args.rung) c.args.done (omega (arith, c.if-done-actions.true, ap length c.actions-actions.ensures)))
    before

pub returns-then-done-actions-2 : goal.returns-then-done-actions-2
returns-then-done-actions-2 t c = λ first before.
    subst (λ (xs : List Action). Comes c.args.scan.program.now c.args.scan.variables c.args.scan.jumps c.args.rung c.prepared.new.known.items xs first c.in_ok-ready.ready.now)
    (ap (take c.args.done) c.actions-actions.ensures
    ∙ all_taken (actions_of c.args.scan.program.now c.args.rung) c.args.done (omega (arith, c.if-done-actions-2.true, ap length c.actions-actions.ensures)))
    (c.in_ok-ready.ensures first
    (subst (λ (xs : List Action). Comes c.args.scan.program.now c.args.scan.variables c.args.scan.jumps c.args.rung c.args.known.now.items (take c.args.done xs) first c.args.list.now)
    (sym c.actions-actions.ensures) before))

pub returns : goal.returns
returns t c =
    onward_ok c.behind_all.result _ _ c.behind_all.ensures
    (λ rest last first before. last first
    (subst (λ (xs : List Action). Comes c.args.scan.program.now c.args.scan.variables c.args.scan.jumps c.args.rung c.prepared.new.known.items (take c.in-Some.after xs) first c.in-Some.next.now)
    c.actions-actions.ensures
    (comes_on c.args.scan.program.now c.args.scan.variables c.args.scan.jumps c.args.rung c.prepared.new.known.items (take c.args.done c.actions-actions.result.now)
    (take c.in-Some.after c.actions-actions.result.now) first c.in_ok-ready.ready.now c.in-Some.next.now
    (c.in_ok-ready.ensures first
    (subst (λ (xs : List Action). Comes c.args.scan.program.now c.args.scan.variables c.args.scan.jumps c.args.rung c.args.known.now.items (take c.args.done xs) first c.args.list.now)
    (sym c.actions-actions.ensures) before))
    (subst (λ (ks : List Known). Go c.args.scan.program.now c.args.scan.variables c.args.scan.jumps c.args.rung ks (take c.args.done c.actions-actions.result.now)
    (take c.in-Some.after c.actions-actions.result.now) c.in_ok-ready.ready.now c.in-Some.next.now) c.deref.ensures.value c.in-Some.ensures.does))))
