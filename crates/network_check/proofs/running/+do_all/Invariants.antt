use Rattle.std.proofs.Common.{length}
use Rattle.network_check.proofs.running.+do_all.Given as goal

abbrev pub decreases-do_all : goal.decreases-do_all
decreases-do_all l = length l.effects.now
