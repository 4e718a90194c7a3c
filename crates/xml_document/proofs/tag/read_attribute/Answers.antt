use Rattle.std.proofs.Common.{rules}
use Rattle.xml_document.proofs.Growing.{attribute_grows, from_first}
use Rattle.xml_document.proofs.tag.read_attribute.Goals as goal

pub returns : goal.returns
returns c =
    attribute_grows _ _ _ _ _ _ _ _ _ _ _ _ c.in-Some.ensures c.in-Some-behind_equals.ensures c.in_ok-name.ensures.whole c.in_ok-name.ensures.stands
    c.in_ok-rest.ensures (search (rules, c.len-start.ensures)) (search (rules, c.len-2.ensures)) c.in_ok-push.ensures.items
    (λ items are. c.is_new.ensures (search (rules, c.if-not-is_new.false)) items (from_first _ _ _ _ _ _ c.deref.ensures.value c.deref-2.ensures.value are))
