use Rattle.std.proofs.Common.{length}
use Rattle.draw_check.proofs.coils.+take_coils.Given as goal

abbrev pub decreases-take_coils : goal.decreases-take_coils
decreases-take_coils l = length l.actions.now
