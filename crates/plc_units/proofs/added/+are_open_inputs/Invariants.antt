use Rattle.std.proofs.Common.{length}
use Rattle.plc_units.proofs.added.+are_open_inputs.Given as goal

abbrev pub decreases-are_open_inputs : goal.decreases-are_open_inputs
decreases-are_open_inputs l = length l.variables.now
