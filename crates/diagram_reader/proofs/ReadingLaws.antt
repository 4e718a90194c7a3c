-- The sites that were read make the drawing of the text.
use Rattle.std.proofs.Common.{◌≡◌, ℕ, ◌*◌, List, length, slice_index_or, refl, sym, ap, ◌∙◌, arith}
use Rattle.diagram_program.specs.declared.site.Site.{Site}
use Rattle.diagram_program.specs.declared.geometry.TheConstants.{PLACES}
use Rattle.diagram_program.specs.AllPlaces.{all_places}
use Rattle.diagram_page.specs.Page.{Page}
use Rattle.diagram_reader.specs.Stops.{IsSoundPage}
use Rattle.diagram_reader.proofs.DrawingLaws.{few_rungs}
use Rattle.diagram_program.specs.Program.{Drawing, drawing, IsWhole}
use Rattle.diagram_program.specs.Sheet.{blank_site}
use Rattle.diagram_program.specs.Geometry.{place}
use Rattle.diagram_reader.specs.Reading.{site_drawn, IsDrawn}
use Rattle.diagram_program.proofs.PlaceLaws.{length-all_places, all_places-drawn}

pub read_whole : (page : Page) (d : Drawing) → IsDrawn page d → IsWhole d
read_whole page d read = record { few = omega (arith, read.rungs, few_rungs page read.sound); size = read.size }

pub sites_drawn : (page : Page) (rungs : ℕ) (sites : List Site) → IsSoundPage page → rungs ≡ length page.parts
    → sites ≡ all_places (site_drawn page) (length page.parts) → IsDrawn page (drawing page.decls rungs sites)
sites_drawn page rungs sites sound count same = record {
  sound = sound;
  declared = refl;
  rungs = count;
  size = ap length same ∙ length-all_places (site_drawn page) (length page.parts) ∙ ap (λ n. PLACES * n) (sym count);
  sites = λ k r c below rows columns.
      ap (λ z. slice_index_or z (place k r c) blank_site) same
      ∙ all_places-drawn (site_drawn page) (length page.parts) blank_site k r c (omega (arith, below, count)) rows columns;
}
