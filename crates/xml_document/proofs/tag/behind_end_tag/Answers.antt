use Rattle.std.proofs.lemmas.Option.{IfSome_then}
use Rattle.std.proofs.Common.{rules}
use Rattle.xml_document.proofs.Productions.{end_tag_at}
use Rattle.xml_document.proofs.tag.behind_end_tag.Goals as goal

pub returns : goal.returns
returns c =
    IfSome_then c.behind-2.result c.behind-2.ensures
    (λ rest e. end_tag_at _ _ _ _ _ _ _ c.in_ok-behind.ensures c.in_ok-found.ensures (search (rules, c.ne.ensures, c.if-ne.false)) c.behind_blanks.ensures e)
