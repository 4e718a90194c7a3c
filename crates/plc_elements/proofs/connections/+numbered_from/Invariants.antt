use Rattle.std.proofs.Common.{length}
use Rattle.plc_elements.proofs.connections.+numbered_from.Given as goal

abbrev pub decreases-numbered_from : goal.decreases-numbered_from
decreases-numbered_from l = length l.parts.now
