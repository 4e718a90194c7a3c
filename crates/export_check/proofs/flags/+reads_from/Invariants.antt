use Rattle.std.proofs.Common.{◌-◌, length}
use Rattle.export_check.proofs.flags.+reads_from.Given as goal

abbrev pub decreases-reads_from : goal.decreases-reads_from
decreases-reads_from l = length l.plan.jumps.now - l.number
