use Rattle.std.proofs.Common.{ap, arith, length}
use Rattle.text_cross_reference.proofs.Rows.{symbols_count}
use Rattle.text_cross_reference.proofs.uses.symbol_count.Goals as goal

pub returns-clause-value : goal.returns-clause-value
returns-clause-value c = omega (arith, symbols_count c.args.decls.now, ap length c.vars.ensures.value, ap length c.instances.ensures.value)
