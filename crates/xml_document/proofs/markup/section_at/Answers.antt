use Rattle.std.proofs.lemmas.Option.{IfSome_then}
use Rattle.xml_document.proofs.Productions.{section_at}
use Rattle.xml_document.proofs.markup.section_at.Goals as goal

pub returns : goal.returns
returns c = IfSome_then c.up_to.result c.up_to.ensures (λ x up. section_at _ _ _ _ c.in_ok-behind.ensures up)
