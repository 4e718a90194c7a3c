use Rattle.std.proofs.Common.{length, ◌+◌, ◌*◌}
use Rattle.xml_document.specs.Elements.{Content}
use Rattle.xml_document.specs.Reads.{Grows}
use Rattle.xml_document.proofs.element.+element.Given as goal

abbrev pub decreases-read_element : goal.decreases-read_element
decreases-read_element l = 2 * l.left

abbrev pub decreases-read_content : goal.decreases-read_content
decreases-read_content l = 2 * l.left + 1

abbrev pub invariant-read_content-loop-document : goal.invariant-read_content-loop-document
invariant-read_content-loop-document l = Grows (Content l.text l.rest) l.fn.document l.document

abbrev pub decreases-read_content-loop-document : goal.decreases-read_content-loop-document
decreases-read_content-loop-document l = length l.rest
