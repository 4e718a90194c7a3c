use Rattle.std.proofs.Common.{rules, sym, subst, List, ◌+◌, arith}
use Rattle.std.proofs.lemmas.List.Elements.{All-nil}
use Rattle.draw_power.specs.declared.helpers.Helper.{Helper}
use Rattle.draw_check.specs.Steps.{ArePrepared, HasPart}
use Rattle.draw_check.proofs.Preparing.{prepared_none, prepared_by}
use Rattle.draw_check.proofs.helpers.prepare.Goals as goal

pub loop-at-init : goal.loop-at-init
loop-at-init c =
    subst (λ (xs : List Helper). ArePrepared c.args.plan.program.now c.args.plan.variables xs c.args.rung c.args.rung) (sym c.clear.ensures.items)
    (prepared_none c.args.plan.program.now c.args.plan.variables c.args.rung, All-nil (HasPart c.args.plan.variables))

pub loop-at-preserved : goal.loop-at-preserved
loop-at-preserved c =
    subst (λ (xs : List Helper). ArePrepared c.args.plan.program.now c.args.plan.variables xs c.args.rung (c.loop-at.at + 1)) (sym c.in_ok-push.ensures.items)
    (prepared_by c.args.plan.program.now c.args.plan.variables c.args.rung c.loop-at.at c.loop-at.helpers.items c.in-Some-helper_on.helper (omega (arith, c.loop-at-test.true, c.rungs-at-end.ensures.value))
    (search rules) c.loop-at.invariant)
