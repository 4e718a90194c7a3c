use Rattle.std.proofs.Common.{length}
use Rattle.plc_elements.proofs.unknown.+names_variable.Given as goal

abbrev pub decreases-names_variable : goal.decreases-names_variable
decreases-names_variable l = length l.variables.now
