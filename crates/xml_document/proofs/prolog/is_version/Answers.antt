use Rattle.std.proofs.Common.{sym, ◌∙◌}
use Rattle.xml_document.proofs.Productions.{version_at}
use Rattle.xml_document.proofs.prolog.is_version.Goals as goal

pub returns-then-not-is_empty : goal.returns-then-not-is_empty
returns-then-not-is_empty c = λ is. version_at _ _ _ _ c.in-Some.ensures c.run_of.ensures (sym c.is_empty.ensures ∙ c.if-not-is_empty.true) (sym c.is_empty-then-not-is_empty.ensures ∙ is)
