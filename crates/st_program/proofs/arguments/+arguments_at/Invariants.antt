use Rattle.std.proofs.Common.{length}
use Rattle.st_program.proofs.arguments.+arguments_at.Given as goal

abbrev pub decreases-arguments_at : goal.decreases-arguments_at
decreases-arguments_at l = length l.items.now
