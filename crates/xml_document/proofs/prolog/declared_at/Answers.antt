use Rattle.std.proofs.Common.{sym, ◌∙◌}
use Rattle.xml_document.proofs.Productions.{declared_at, apart}
use Rattle.xml_document.proofs.prolog.declared_at.Goals as goal

pub returns : goal.returns
returns c =
    declared_at _ _ _ _ _ _ _ _ _ _ _ (apart _ _ c.behind_blanks-start.ensures c.if-start-text.false) c.in_ok-behind.ensures c.in_ok-behind_equals.ensures
    c.in_ok-quote.ensures.first (sym c.is_quote.ensures ∙ c.if-not-is_quote.false) c.run_of.ensures c.in_ok-closing.ensures.first c.if-closing-quote.false
