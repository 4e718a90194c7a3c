use Rattle.std.proofs.Common.{rules}
use Rattle.xml_document.specs.Elements.{none}
use Rattle.xml_document.proofs.Ends.{spaced_less}
use Rattle.xml_document.proofs.Growing.{grows_nothing, attributes_more}
use Rattle.xml_document.proofs.tag.read_attributes.Goals as goal

pub loop-start-init : goal.loop-start-init
loop-start-init c = grows_nothing _ _ (none _)

pub loop-start-smaller : goal.loop-start-smaller
loop-start-smaller c = spaced_less _ _ _ _ _ c.in-Some.ensures c.in_ok-rest.ensures.are.is

pub loop-start-preserved : goal.loop-start-preserved
loop-start-preserved c = attributes_more _ _ _ _ _ _ _ _ (search (rules, c.len-first.ensures)) c.loop-start.invariant c.in-Some.ensures c.in_ok-rest.ensures
