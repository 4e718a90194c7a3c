use Rattle.std.proofs.Common.{◌<◌}
use Rattle.diff_matching.specs.Names.{AreAll, AreOneInstance}
use Rattle.diff_matching.proofs.names.instances.Given as goal

abbrev pub invariant-loop-inst : goal.invariant-loop-inst
invariant-loop-inst l = AreAll (λ x. AreOneInstance l.old l.new x × (x.old < l.inst)) l.pairs.items
