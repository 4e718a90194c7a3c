use Rattle.std.proofs.Common.{length}
use Rattle.xml_document.specs.Elements.{Attributes}
use Rattle.xml_document.specs.Reads.{Grows}
use Rattle.xml_document.proofs.tag.read_attributes.Given as goal

abbrev pub invariant-loop-start : goal.invariant-loop-start
invariant-loop-start l = Grows (Attributes l.text l.rest) l.initial.document l.document

abbrev pub decreases-loop-start : goal.decreases-loop-start
decreases-loop-start l = length l.rest
