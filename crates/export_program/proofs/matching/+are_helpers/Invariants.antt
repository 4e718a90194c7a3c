use Rattle.std.proofs.Common.{length}
use Rattle.export_program.proofs.matching.+are_helpers.Given as goal

abbrev pub decreases-are_helpers : goal.decreases-are_helpers
decreases-are_helpers l = length l.xs.now
