use Rattle.std.proofs.Common.{length}
use Rattle.st_program.proofs.choice.+numbers_at.Given as goal

abbrev pub decreases-numbers_at : goal.decreases-numbers_at
decreases-numbers_at l = length l.items.now
