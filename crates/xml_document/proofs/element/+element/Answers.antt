use Rattle.xml_document.proofs.Ends.{child_less}
use Rattle.xml_document.proofs.Growing.{element_empty, element_whole, content_first, content_more}
use Rattle.xml_document.proofs.element.+element.Goals as goal

pub read_content-loop-document-init : goal.read_content-loop-document-init
read_content-loop-document-init t c = content_first _ _ _ _ c.in_ok-rest.ensures

pub read_content-loop-document-smaller : goal.read_content-loop-document-smaller
read_content-loop-document-smaller t c = child_less _ _ _ _ _ c.in_ok-behind.ensures.are c.in_ok-rest-2.ensures.are.is

pub read_content-loop-document-preserved : goal.read_content-loop-document-preserved
read_content-loop-document-preserved t c =
    content_more _ _ _ _ _ _ _ _ c.loop-document.invariant c.in_ok-behind.ensures c.in_ok-rest-2.ensures

pub read_element-returns-then-tag : goal.read_element-returns-then-tag
read_element-returns-then-tag t c = element_empty _ _ _ _ _ _ _ c.in_ok-tag.ensures c.if-tag.true c.in_ok-close.ensures

pub read_element-returns : goal.read_element-returns
read_element-returns t c =
    element_whole _ _ _ _ _ _ _ _ _ _ c.in_ok-tag.ensures c.if-tag.false c.in_ok-end.ensures c.in-Some.ensures c.in_ok-close-2.ensures
