use Rattle.std.proofs.Common.{ap, arith, length}
use Rattle.text_names.proofs.meant.count_names.Goals as goal

pub returns-clause-most : goal.returns-clause-most
returns-clause-most c =
    omega (arith, c.vars.ensures.kept.kept.2, c.instances.ensures.kept.kept.3, ap length c.vars.ensures.value, ap length c.instances.ensures.value)
