use Rattle.std.proofs.Common.{◌<◌}
use Rattle.diff_matching.specs.Names.{AreAll, AreOneOfSort}
use Rattle.diff_matching.proofs.names.variables.Given as goal

abbrev pub invariant-loop-var : goal.invariant-loop-var
invariant-loop-var l = AreAll (λ x. AreOneOfSort l.inputs l.old l.new x × (x.old < l.var)) l.pairs.items
