use Rattle.std.proofs.Common.{length}
use Rattle.plc_elements.proofs.steps.+are_done.Given as goal

abbrev pub decreases-are_done : goal.decreases-are_done
decreases-are_done l = length l.order.now
