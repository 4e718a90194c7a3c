use Rattle.xml_document.specs.Documents.{left_out}
use Rattle.xml_document.proofs.Productions.{order_mark_at}
use Rattle.xml_document.proofs.prolog.behind_order_mark.Goals as goal

pub returns-in-Some : goal.returns-in-Some
returns-in-Some c = order_mark_at _ _ c.in-Some.ensures

pub returns-in-None : goal.returns-in-None
returns-in-None c = left_out _
