use Rattle.xml_document.proofs.Productions.{equals_at}
use Rattle.xml_document.proofs.tag.behind_equals.Goals as goal

pub returns : goal.returns
returns c = equals_at _ _ _ _ c.behind_blanks.ensures c.in_ok-after.ensures c.behind_blanks-2.ensures
