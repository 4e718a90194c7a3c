use Rattle.std.proofs.Common.{◌<◌}
use Rattle.diff_matching.specs.Names.{AreAll}
use Rattle.diff_matching.specs.Names.{AreOneMemory}
use Rattle.diff_matching.proofs.names.memories.Given as goal

abbrev pub invariant-loop-number : goal.invariant-loop-number
invariant-loop-number l = AreAll (λ x. AreOneMemory l.old l.new x × (x.old < l.number)) l.pairs.items
