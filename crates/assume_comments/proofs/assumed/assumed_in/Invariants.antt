use Rattle.std.proofs.Common.{length, map, string_bytes}
use Rattle.assume_comments.proofs.Walks.{SoFar}
use Rattle.assume_comments.proofs.assumed.assumed_in.Given as goal

abbrev pub invariant-loop-front : goal.invariant-loop-front
invariant-loop-front l = SoFar l.text l.rest (map string_bytes l.texts.items)

abbrev pub decreases-loop-front : goal.decreases-loop-front
decreases-loop-front l = length l.rest
