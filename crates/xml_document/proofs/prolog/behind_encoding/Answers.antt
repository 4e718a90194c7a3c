use Rattle.xml_document.specs.Documents.{left_out, there}
use Rattle.xml_document.proofs.prolog.behind_encoding.Goals as goal

pub returns-in_default : goal.returns-in_default
returns-in_default c = left_out _

pub returns : goal.returns
returns c = there _ _ _ c.in-Some.ensures (c.eq_ignore_ascii_case.ensures.test.0 c.if-not-eq_ignore_ascii_case.false)
