use Rattle.std.proofs.Common.{length}
use Rattle.xml_parts.proofs.attributes.+attribute_among.Given as goal

abbrev pub decreases-attribute_among : goal.decreases-attribute_among
decreases-attribute_among l = length l.events.now
