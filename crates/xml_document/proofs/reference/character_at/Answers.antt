use Rattle.std.proofs.Common.{rules}
use Rattle.xml_document.proofs.Productions.{ended_by}
use Rattle.xml_document.proofs.reference.character_at.Goals as goal

pub returns : goal.returns
returns c =
    (ended_by _ _ _ _ _ _ c.in_ok-number.ensures c.in_ok-rest.ensures c.in_ok-c.ensures.value.1, search (rules, c.is_char.ensures, c.if-not-is_char.false))
