use Rattle.std.proofs.Common.{length}
use Rattle.xml_parts.proofs.attributes.+text_among.Given as goal

abbrev pub decreases-text_among : goal.decreases-text_among
decreases-text_among l = length l.events.now
