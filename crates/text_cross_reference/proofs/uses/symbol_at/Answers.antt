use Rattle.std.proofs.Common.{ap, arith, length}
use Rattle.text_cross_reference.proofs.Rows.{instance_at, var_at}
use Rattle.text_cross_reference.proofs.uses.symbol_at.Goals as goal

pub returns-then-number-vars : goal.returns-then-number-vars
returns-then-number-vars c = var_at c.args.decls.now c.args.number (omega (arith, c.if-number-vars.true, ap length c.vars-vars.ensures.value))

pub returns-else-number-vars : goal.returns-else-number-vars
returns-else-number-vars c =
    rw c.vars-vars.ensures.value (instance_at c.args.decls.now c.args.number c.requires (omega (arith, c.if-number-vars.false, ap length c.vars-vars.ensures.value)))
