use Rattle.xml_document.proofs.Productions.{name_at}
use Rattle.std.proofs.Common.{rules}
use Rattle.xml_document.proofs.characters.name_at.Goals as goal

pub returns : goal.returns
returns c = name_at _ _ _ _ _ c.run_of.ensures c.in_ok-first.ensures.first (search (rules, c.is_name_start.ensures, c.if-not-is_name_start.false))
