use Rattle.std.proofs.Common.{refl, subst}
use Rattle.export_check.specs.Flags.{IsAnyOf, ReadsFrom}
use Rattle.export_check.proofs.Shown.{not_guard_by}
use Rattle.export_check.proofs.flags.is_guard.Goals as goal

pub returns-then-is_any_of : goal.returns-then-is_any_of
returns-then-is_any_of c = λ is.
    not_guard_by c.args.plan.first c.args.plan.jumps.now c.args.rung c.args.expression.now c.in-Not.any.value _ c.in-Not.is
    (subst (IsAnyOf c.args.plan.first c.args.plan.jumps.now c.args.rung) c.deref.ensures (c.if-is_any_of.ensures refl))
    (subst (ReadsFrom 0 c.args.plan.first c.args.plan.jumps.now c.args.rung) c.deref-then-is_any_of.ensures (c.reads_from.ensures is))
