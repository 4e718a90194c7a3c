use Rattle.std.proofs.Common.{length}
use Rattle.assume_reading.specs.Words.{BeginAs}
use Rattle.assume_reading.proofs.tokens.tokens_of.Given as goal

abbrev pub invariant-loop-word : goal.invariant-loop-word
invariant-loop-word l = BeginAs l.decls l.text l.words l.rest l.tokens.items

abbrev pub decreases-loop-word : goal.decreases-loop-word
decreases-loop-word l = length l.rest
