use Rattle.std.proofs.Common.{refl, subst}
use Rattle.export_check.specs.Flags.{IsAnyOf}
use Rattle.export_check.proofs.Shown.{flag_any_by, or_any_by}
use Rattle.export_check.proofs.flags.+is_any_of.Goals as goal

pub returns-in-Operand : goal.returns-in-Operand
returns-in-Operand t c = λ is.
    flag_any_by c.args.plan.first c.args.plan.jumps.now c.args.rung c.args.expression.now c.in-Operand.operand c.in-Operand.is (c.is_flag.ensures is)

pub returns-then-is_any_of : goal.returns-then-is_any_of
returns-then-is_any_of t c = λ is.
    let flags = IsAnyOf c.args.plan.first c.args.plan.jumps.now c.args.rung in
    or_any_by c.args.plan.first c.args.plan.jumps.now c.args.rung c.args.expression.now c.in-Or.a.value c.in-Or.b.value _ _ c.in-Or.is
    (subst flags c.deref.ensures (c.if-is_any_of.ensures refl)) (subst flags c.deref-then-is_any_of.ensures (c.is_any_of-then-is_any_of.ensures is))
