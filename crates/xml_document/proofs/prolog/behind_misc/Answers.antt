use Rattle.std.proofs.lemmas.Option.{MatchOption-at_some}
use Rattle.xml_document.specs.Documents.{nothing, one_more}
use Rattle.xml_document.proofs.Ends.{one_behind, behind_less}
use Rattle.xml_document.proofs.prolog.behind_misc.Goals as goal

pub loop-after-init : goal.loop-after-init
loop-after-init c = nothing _

pub loop-after-smaller : goal.loop-after-smaller
loop-after-smaller c = behind_less _ _ (one_behind _ _ (MatchOption-at_some _ _ _ c.in-Some.is c.in_ok-after.ensures))

pub loop-after-preserved : goal.loop-after-preserved
loop-after-preserved c = one_more _ _ _ c.loop-after.invariant (MatchOption-at_some _ _ _ c.in-Some.is c.in_ok-after.ensures)
