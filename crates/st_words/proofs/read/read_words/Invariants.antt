use Rattle.std.proofs.Common.{length}
use Rattle.st_words.proofs.Steps.{SoFar}
use Rattle.st_words.proofs.read.read_words.Given as goal

abbrev pub invariant-loop-rest : goal.invariant-loop-rest
invariant-loop-rest l = SoFar l.text l.rest l.words.items

abbrev pub decreases-loop-rest : goal.decreases-loop-rest
decreases-loop-rest l = length l.rest
