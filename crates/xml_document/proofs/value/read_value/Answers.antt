use Rattle.std.proofs.Common.{refl, rules}
use Rattle.std.proofs.lemmas.Option.{MatchOption-at_some, MatchOption-at_none}
use Rattle.xml_document.specs.Elements.{nothing}
use Rattle.xml_document.proofs.Adding.{decodes_nothing, value_more, value_quoted}
use Rattle.xml_document.proofs.Ends.{given_behind, behind_less}
use Rattle.xml_document.proofs.value.read_value.Goals as goal

pub loop-after-init : goal.loop-after-init
loop-after-init c = decodes_nothing _ _ _ (nothing _) refl

pub loop-after-smaller : goal.loop-after-smaller
loop-after-smaller c = let d = MatchOption-at_some _ _ _ c.in-Some-2.is c.in_ok-after.ensures in behind_less _ _ (given_behind _ _ _ _ d.are)

pub loop-after-preserved : goal.loop-after-preserved
loop-after-preserved c = value_more _ _ _ _ _ _ _ c.loop-after.invariant (MatchOption-at_some _ _ _ c.in-Some-2.is c.in_ok-after.ensures)

pub returns-in-Some-first_of : goal.returns-in-Some-first_of
returns-in-Some-first_of c =
    let none = MatchOption-at_none _ _ c.in_default-2.is c.in_ok-after.ensures in
    value_quoted _ _ _ _ _ _ _ _ _ c.in-Some.ensures.first (search (rules, c.is_quote.ensures, c.if-not-is_quote.false)) c.loop-after.invariant none.0 none.1 c.in-Some-first_of.ensures.first
