use Rattle.std.proofs.Common.{length}
use Rattle.xml_document.proofs.tag.+is_new.Given as goal

abbrev pub decreases-is_new : goal.decreases-is_new
decreases-is_new l = length l.events.now
