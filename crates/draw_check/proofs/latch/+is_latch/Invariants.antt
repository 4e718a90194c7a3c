use Rattle.std.proofs.Common.{length}
use Rattle.draw_check.proofs.latch.+is_latch.Given as goal

abbrev pub decreases-is_latch : goal.decreases-is_latch
decreases-is_latch l = length l.actions.now
