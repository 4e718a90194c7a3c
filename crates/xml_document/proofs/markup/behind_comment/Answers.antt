use Rattle.std.proofs.lemmas.Option.{IfSome_then}
use Rattle.xml_document.proofs.Productions.{comment_at}
use Rattle.xml_document.proofs.markup.behind_comment.Goals as goal

pub returns : goal.returns
returns c =
    IfSome_then c.behind-2.result c.behind-2.ensures (λ rest e. comment_at _ _ _ _ _ c.in_ok-behind.ensures c.in_ok-end.ensures e)
