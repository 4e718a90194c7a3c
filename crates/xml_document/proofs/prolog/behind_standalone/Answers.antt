use Rattle.std.proofs.Common.{rules}
use Rattle.xml_document.specs.Documents.{left_out, there}
use Rattle.xml_document.proofs.prolog.behind_standalone.Goals as goal

pub returns-in_default : goal.returns-in_default
returns-in_default c = left_out _

pub returns : goal.returns
returns c = there _ _ _ c.in-Some.ensures (c.is_yes_or_no.ensures (search (rules, c.if-not-is_yes_or_no.false)))
