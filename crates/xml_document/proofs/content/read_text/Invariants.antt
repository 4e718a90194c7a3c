use Rattle.std.proofs.Common.{length}
use Rattle.xml_document.specs.Markup.{Text}
use Rattle.xml_document.specs.Reads.{Decodes}
use Rattle.xml_document.proofs.content.read_text.Given as goal

abbrev pub invariant-loop-after : goal.invariant-loop-after
invariant-loop-after l = Decodes (Text l.text l.rest) l.initial.bytes.items l.bytes.items

abbrev pub decreases-loop-after : goal.decreases-loop-after
decreases-loop-after l = length l.rest
