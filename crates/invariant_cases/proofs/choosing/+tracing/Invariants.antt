use Rattle.std.proofs.Common.{◌+◌, ◌*◌}
use Rattle.invariant_cases.proofs.choosing.+tracing.Given as goal

abbrev pub decreases-open_read : goal.decreases-open_read
decreases-open_read l = 9 * l.rung + 1

abbrev pub decreases-open_cell : goal.decreases-open_cell
decreases-open_cell l = 9 * l.rung + 2

abbrev pub decreases-open_gate : goal.decreases-open_gate
decreases-open_gate l = 9 * l.rung + 3

abbrev pub decreases-open_in : goal.decreases-open_in
decreases-open_in l = 9 * l.rung + 4

abbrev pub decreases-open_exit : goal.decreases-open_exit
decreases-open_exit l = 9 * l.rung + 5

abbrev pub decreases-open_way : goal.decreases-open_way
decreases-open_way l = 9 * l.rung + 6

abbrev pub decreases-open_action : goal.decreases-open_action
decreases-open_action l = 9 * l.rung + 7

abbrev pub decreases-open_writer : goal.decreases-open_writer
decreases-open_writer l = 9 * l.rung + 8

abbrev pub decreases-open_written : goal.decreases-open_written
decreases-open_written l = 9 * l.end
