use Rattle.std.proofs.Common.{length}
use Rattle.xml_parts.proofs.elements.+place_of.Given as goal

abbrev pub decreases-place_of : goal.decreases-place_of
decreases-place_of l = length l.parts.now
