use Rattle.std.proofs.Common.{◌≡◌, map}
use Rattle.diagram_program.specs.Geometry.{at_place}
use Rattle.diagram_program.specs.AllPlaces.{first_places}
use Rattle.diagram_page.specs.Tables.{over_read}
use Rattle.diagram_page.proofs.page.overs.Given as goal

abbrev pub invariant-loop-n : goal.invariant-loop-n
invariant-loop-n l = l.overs.items ≡ first_places (at_place (over_read l.decls (map (λ x. x.now) l.lines) l.parts)) l.n
