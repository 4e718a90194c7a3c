use Rattle.std.proofs.lemmas.Option.{IfSome_then}
use Rattle.xml_document.proofs.Productions.{decimal_at, hexadecimal_at}
use Rattle.xml_document.proofs.reference.reference_at.Goals as goal

pub returns-in-Some : goal.returns-in-Some
returns-in-Some c = IfSome_then c.character_at.result c.character_at.ensures (λ x h. hexadecimal_at _ _ _ _ c.in-Some.ensures h.0 h.1)

pub returns-in-Some-behind : goal.returns-in-Some-behind
returns-in-Some-behind c =
    IfSome_then c.character_at-in-Some-behind.result c.character_at-in-Some-behind.ensures (λ x h. decimal_at _ _ _ _ c.in-Some-behind.ensures h.0 h.1)
