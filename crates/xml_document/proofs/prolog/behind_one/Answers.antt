use Rattle.std.proofs.Common.{rules}
use Rattle.xml_document.specs.Documents.{comment, instruction}
use Rattle.xml_document.proofs.Productions.{blank_at}
use Rattle.xml_document.proofs.prolog.behind_one.Goals as goal

pub returns-then-starts_with : goal.returns-then-starts_with
returns-then-starts_with c = comment _ _ c.in-Some.ensures

pub returns-then-starts_with-2 : goal.returns-then-starts_with-2
returns-then-starts_with-2 c = instruction _ _ c.in-Some-behind_instruction.ensures

pub returns-in-Some-first_of : goal.returns-in-Some-first_of
returns-in-Some-first_of c = blank_at _ _ _ c.in-Some-first_of.ensures.first (search (rules, c.is_blank.ensures, c.if-is_blank.true))
