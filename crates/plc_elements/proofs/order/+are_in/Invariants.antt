use Rattle.std.proofs.Common.{length}
use Rattle.plc_elements.proofs.order.+are_in.Given as goal

abbrev pub decreases-are_in : goal.decreases-are_in
decreases-are_in l = length l.numbers.now
