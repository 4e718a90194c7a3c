use Rattle.std.proofs.Common.{length}
use Rattle.network_routes.proofs.firsts.+are_no_larger.Given as goal

abbrev pub decreases-are_no_larger : goal.decreases-are_no_larger
decreases-are_no_larger l = length l.elements.now
