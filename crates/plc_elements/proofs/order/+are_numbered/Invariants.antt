use Rattle.std.proofs.Common.{length}
use Rattle.plc_elements.proofs.order.+are_numbered.Given as goal

abbrev pub decreases-are_numbered : goal.decreases-are_numbered
decreases-are_numbered l = length l.parts.now
