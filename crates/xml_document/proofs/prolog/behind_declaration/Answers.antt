use Rattle.std.proofs.Common.{rules}
use Rattle.xml_document.specs.Documents.{left_out}
use Rattle.xml_document.proofs.Productions.{declaration_at}
use Rattle.xml_document.proofs.prolog.behind_declaration.Goals as goal

pub returns-in_default : goal.returns-in_default
returns-in_default c = left_out _

pub returns : goal.returns
returns c =
    declaration_at _ _ _ _ _ _ _ _ c.in-Some.ensures c.in-Some-declared_at.ensures (c.is_version.ensures (search (rules, c.if-not-is_version.false)))
    c.in_ok-behind_encoding.ensures c.in_ok-behind_standalone.ensures c.behind_blanks-end.ensures c.in-Some-behind.ensures
