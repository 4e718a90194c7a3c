use Rattle.std.proofs.Common.{rules}
use Rattle.xml_document.proofs.Productions.{instruction_at, false_no}
use Rattle.xml_document.proofs.markup.behind_instruction.Goals as goal

pub returns : goal.returns
returns c =
    instruction_at _ _ _ _ _ _ c.in_ok-behind.ensures c.in_ok-target.ensures (false_no c.eq_ignore_ascii_case.ensures.test c.if-eq_ignore_ascii_case.false)
    c.in_ok-inside.ensures (search (rules, c.is_apart.ensures, c.if-not-is_apart.false))
