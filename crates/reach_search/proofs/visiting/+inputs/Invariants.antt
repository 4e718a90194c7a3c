use Rattle.std.proofs.Common.{◌*◌, ◌+◌}
use Rattle.reach_search.proofs.visiting.+inputs.Given as goal

abbrev pub decreases-visit_open : goal.decreases-visit_open
decreases-visit_open l = 3 * l.left

abbrev pub decreases-visit_inputs : goal.decreases-visit_inputs
decreases-visit_inputs l = 3 * l.left + 1

abbrev pub decreases-by_input : goal.decreases-by_input
decreases-by_input l = 3 * l.left + 2
