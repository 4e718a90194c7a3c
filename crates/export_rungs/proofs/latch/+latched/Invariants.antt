use Rattle.std.proofs.Common.{length, ◌-◌}
use Rattle.export_rungs.proofs.latch.+latched.Given as goal

abbrev pub decreases-latched : goal.decreases-latched
decreases-latched l = length l.actions.now - l.done
