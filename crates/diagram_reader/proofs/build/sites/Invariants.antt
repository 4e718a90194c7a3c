use Rattle.std.proofs.Common.{◌≡◌, ◌≤◌}
use Rattle.diagram_reader.specs.Reading.{site_drawn, memories_before}
use Rattle.diagram_program.specs.Geometry.{at_place}
use Rattle.diagram_program.specs.AllPlaces.{first_places}
use Rattle.diagram_page.specs.Seen.{seen}
use Rattle.diagram_reader.proofs.build.sites.Given as goal

abbrev pub invariant-loop-n : goal.invariant-loop-n
invariant-loop-n l = record {
  so_far : l.sites.items ≡ first_places (at_place (site_drawn (seen l.page))) l.n;
  number : l.next ≡ memories_before (seen l.page) l.n;
  small : l.next ≤ l.n;
}
