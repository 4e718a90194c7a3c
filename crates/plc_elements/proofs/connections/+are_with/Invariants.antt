use Rattle.std.proofs.Common.{length}
use Rattle.plc_elements.proofs.connections.+are_with.Given as goal

abbrev pub decreases-are_with : goal.decreases-are_with
decreases-are_with l = length l.numbers.now
