use Rattle.std.proofs.Common.{length}
use Rattle.plc_units.proofs.added.+are_added.Given as goal

abbrev pub decreases-are_added : goal.decreases-are_added
decreases-are_added l = length l.edges.now
