use Rattle.std.specs.Prelude.{◌≡◌, ◌++◌}
use Rattle.scan_cycle.specs.Programs.{diagram_of}
use Rattle.diagram_program.specs.AllPlaces.{first_places}
use Rattle.scan_cycle.specs.Seen.{mark_passed}
use Rattle.scan_cycle.proofs.seen.add_passed.Given as goal

abbrev pub invariant-loop-place : goal.invariant-loop-place
invariant-loop-place l = l.marks.items ≡ l.fn.marks.items ++ first_places (λ place. mark_passed l.held ((diagram_of l.scene.program.now).cell l.scene.rung place)) l.place
