use Rattle.std.proofs.Common.{rules}
use Rattle.xml_document.specs.Markup.{reference}
use Rattle.xml_document.proofs.Adding.{byte_piece}
use Rattle.xml_document.proofs.content.read_piece.Goals as goal

pub returns-then-b-eq38 : goal.returns-then-b-eq38
returns-then-b-eq38 c =
    record { bytes = _; are = reference _ _ _ c.in-Some-reference_at.ensures; whole = c.in_ok-push_character.ensures }

pub returns : goal.returns
returns c =
    byte_piece _ _ _ _ _ c.in-Some.ensures.first c.if-b-eq60.false c.if-b-eq38.false (search (rules, c.starts_with.ensures.value, c.if-starts_with.false))
    c.in_ok-push.ensures.items
