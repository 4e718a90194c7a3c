use Rattle.std.proofs.Common.{length}
use Rattle.xml_document.specs.Elements.{Value}
use Rattle.xml_document.specs.Reads.{Decodes}
use Rattle.xml_document.proofs.value.read_value.Given as goal

abbrev pub invariant-loop-after : goal.invariant-loop-after
invariant-loop-after l = Decodes (Value l.quote l.initial.rest l.rest) l.initial.bytes.items l.bytes.items

abbrev pub decreases-loop-after : goal.decreases-loop-after
decreases-loop-after l = length l.rest
