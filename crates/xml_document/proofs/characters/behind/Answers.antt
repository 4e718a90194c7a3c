use Rattle.std.proofs.Common.{rules}
use Rattle.xml_document.proofs.Runs.{marked}
use Rattle.xml_document.proofs.characters.behind.Goals as goal

pub returns : goal.returns
returns c = marked _ _ (search (rules, c.starts_with.ensures.value, c.if-not-starts_with.false))
