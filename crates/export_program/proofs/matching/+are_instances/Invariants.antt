use Rattle.std.proofs.Common.{length}
use Rattle.export_program.proofs.matching.+are_instances.Given as goal

abbrev pub decreases-are_instances : goal.decreases-are_instances
decreases-are_instances l = length l.is.now
