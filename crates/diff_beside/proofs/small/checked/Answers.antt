use Rattle.std.proofs.Common.{ap, arith, length}
use Rattle.diff_beside.proofs.Bounds.{all_small}
use Rattle.diff_beside.proofs.small.checked.Goals as goal

pub returns-clause-small : goal.returns-clause-small
returns-clause-small c = all_small c.args.program.now c.rungs-rungs.ensures.whole c.checked.ensures (omega (arith, ap (λ d. length d.instances) c.decls.ensures, c.vars-vars.ensures.kept.kept.3))
