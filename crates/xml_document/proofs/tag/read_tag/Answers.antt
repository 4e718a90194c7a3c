use Rattle.xml_document.proofs.Growing.{tag_grows}
use Rattle.xml_document.proofs.tag.read_tag.Goals as goal

pub returns-in-Some-behind : goal.returns-in-Some-behind
returns-in-Some-behind c =
    tag_grows _ _ _ _ _ _ _ _ _ _ _ c.in-Some.ensures c.in_ok-span.ensures.whole c.in_ok-span.ensures.stands c.in_ok-push.ensures.items
    c.in_ok-read_attributes.ensures c.behind_blanks-end.ensures c.in-Some-behind.ensures

pub returns-in-Some-behind-2 : goal.returns-in-Some-behind-2
returns-in-Some-behind-2 c =
    tag_grows _ _ _ _ _ _ _ _ _ _ _ c.in-Some.ensures c.in_ok-span.ensures.whole c.in_ok-span.ensures.stands c.in_ok-push.ensures.items
    c.in_ok-read_attributes.ensures c.behind_blanks-end.ensures c.in-Some-behind-2.ensures
