use Rattle.std.proofs.Common.{length}
use Rattle.st_program.specs.Expressions.{BeginsAs}
use Rattle.st_program.proofs.expressions.tokens_of.Given as goal

abbrev pub invariant-loop-item : goal.invariant-loop-item
invariant-loop-item l = BeginsAs l.items l.rest l.tokens.items

abbrev pub decreases-loop-item : goal.decreases-loop-item
decreases-loop-item l = length l.rest
