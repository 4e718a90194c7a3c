use Rattle.xml_document.proofs.Productions.{less_at, greater_at, ampersand_at, apostrophe_at, quotation_at}
use Rattle.xml_document.proofs.reference.entity_at.Goals as goal

pub returns-in-Some : goal.returns-in-Some
returns-in-Some c = less_at _ _ c.in-Some.ensures

pub returns-in-Some-behind : goal.returns-in-Some-behind
returns-in-Some-behind c = greater_at _ _ c.in-Some-behind.ensures

pub returns-in-Some-behind-2 : goal.returns-in-Some-behind-2
returns-in-Some-behind-2 c = ampersand_at _ _ c.in-Some-behind-2.ensures

pub returns-in-Some-behind-3 : goal.returns-in-Some-behind-3
returns-in-Some-behind-3 c = apostrophe_at _ _ c.in-Some-behind-3.ensures

pub returns : goal.returns
returns c = quotation_at _ _ c.in_ok-behind.ensures
