use Rattle.std.proofs.Common.{◌-◌, length}
use Rattle.reach_search.proofs.visiting.+visit_times.Given as goal

abbrev pub decreases-visit_times : goal.decreases-visit_times
decreases-visit_times l = length l.visiting.query.program.now.decls.instances - l.inst
