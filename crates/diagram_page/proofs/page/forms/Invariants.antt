use Rattle.std.proofs.Common.{◌≡◌, map}
use Rattle.diagram_program.specs.Geometry.{at_place}
use Rattle.diagram_program.specs.AllPlaces.{first_places}
use Rattle.diagram_page.specs.ReadLines.{form_read}
use Rattle.diagram_page.proofs.page.forms.Given as goal

abbrev pub invariant-loop-n : goal.invariant-loop-n
invariant-loop-n l = l.forms.items ≡ first_places (at_place (form_read (map (λ x. x.now) l.lines) l.parts)) l.n
