use Rattle.std.proofs.Common.{length}
use Rattle.plc_elements.proofs.inputs.+are_known.Given as goal

abbrev pub decreases-are_known : goal.decreases-are_known
decreases-are_known l = length l.inputs.now
