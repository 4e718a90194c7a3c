-- The rungs of a page on which no rule is broken.
use Rattle.std.proofs.Common.{ℕ, ◌+◌, ◌<◌, length, refl, inl, inr, arith}
use Rattle.diagram_program.specs.declared.geometry.TheConstants.{RUNGS}
use Rattle.diagram_page.specs.Page.{Page}
use Rattle.diagram_page.specs.Lines.{part_in}
use Rattle.diagram_reader.specs.Rung.{IsSoundRung}
use Rattle.diagram_reader.specs.PageRules.{PartBreaks}
use Rattle.diagram_reader.specs.Stops.{IsSoundPage}
use Rattle.diagram_reader.proofs.DrawingLaws.{few_rungs}

pub sound_rung : (page : Page) → IsSoundPage page → (k : ℕ) → k < length page.parts → IsSoundRung page k
unfolding PartBreaks
sound_rung page sound k inside r n breaks =
    let judged : k < RUNGS = omega (arith, inside, few_rungs page sound) in
    sound r k ((part_in page.parts k).start + n) (inl (inside, inr (inr (judged, n, refl, breaks))))
