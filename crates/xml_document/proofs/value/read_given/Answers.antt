use Rattle.xml_document.specs.Elements.{reference}
use Rattle.xml_document.proofs.Adding.{byte_given}
use Rattle.xml_document.proofs.value.read_given.Goals as goal

pub returns-then-b-eq38 : goal.returns-then-b-eq38
returns-then-b-eq38 c =
    record { bytes = _; are = reference _ _ _ c.in-Some-reference_at.ensures; whole = c.in_ok-push_character.ensures }

pub returns : goal.returns
returns c = byte_given _ _ _ _ _ _ c.in-Some.ensures.first c.if-b-eq60.false c.if-b-eq38.false c.if-b-quote.false c.in_ok-push.ensures.items
