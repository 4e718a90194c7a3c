use Rattle.std.proofs.Common.{length}
use Rattle.plc_elements.proofs.edges.+leads_to_next.Given as goal

abbrev pub decreases-leads_to_next : goal.decreases-leads_to_next
decreases-leads_to_next l = length l.numbers.now
