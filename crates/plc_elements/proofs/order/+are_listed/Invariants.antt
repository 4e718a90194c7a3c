use Rattle.std.proofs.Common.{length}
use Rattle.plc_elements.proofs.order.+are_listed.Given as goal

abbrev pub decreases-are_listed : goal.decreases-are_listed
decreases-are_listed l = length l.parts.now
