use Rattle.std.proofs.Common.{refl}
use Rattle.std.proofs.lemmas.Option.{MatchOption-at_some}
use Rattle.xml_document.specs.Markup.{nothing}
use Rattle.xml_document.proofs.Adding.{decodes_nothing, text_more}
use Rattle.xml_document.proofs.Ends.{piece_behind, behind_less}
use Rattle.xml_document.proofs.content.read_text.Goals as goal

pub loop-after-init : goal.loop-after-init
loop-after-init c = decodes_nothing _ _ _ (nothing _) refl

pub loop-after-smaller : goal.loop-after-smaller
loop-after-smaller c = let d = MatchOption-at_some _ _ _ c.in-Some.is c.in_ok-after.ensures in behind_less _ _ (piece_behind _ _ _ d.are)

pub loop-after-preserved : goal.loop-after-preserved
loop-after-preserved c = text_more _ _ _ _ _ _ c.loop-after.invariant (MatchOption-at_some _ _ _ c.in-Some.is c.in_ok-after.ensures)
