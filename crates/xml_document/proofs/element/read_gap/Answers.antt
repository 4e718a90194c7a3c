use Rattle.std.proofs.Common.{refl, rules}
use Rattle.xml_document.proofs.Growing.{gap_nothing, gap_something}
use Rattle.xml_document.proofs.element.read_gap.Goals as goal

pub returns-then-start-end : goal.returns-then-start-end
returns-then-start-end c =
    gap_nothing _ _ _ _ c.in_ok-rest.ensures (search (rules, c.len-start.ensures, c.len-end.ensures, c.if-start-end.true)) refl

pub returns : goal.returns
returns c =
    gap_something _ _ _ _ _ _ c.in_ok-rest.ensures (search (rules, c.len-start.ensures)) (search (rules, c.len-end.ensures)) c.if-start-end.false
    c.in_ok-push.ensures.items
