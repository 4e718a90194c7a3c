use Rattle.std.proofs.Common.{length}
use Rattle.export_program.proofs.matching.+are_variables.Given as goal

abbrev pub decreases-are_variables : goal.decreases-are_variables
decreases-are_variables l = length l.vs.now
