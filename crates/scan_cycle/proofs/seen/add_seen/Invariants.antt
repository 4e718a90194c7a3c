use Rattle.std.specs.Prelude.{◌≡◌, ◌++◌}
use Rattle.scan_cycle.specs.Programs.{diagram_of}
use Rattle.diagram_program.specs.AllPlaces.{first_places}
use Rattle.scan_cycle.specs.Seen.{mark_in}
use Rattle.scan_cycle.proofs.seen.add_seen.Given as goal

abbrev pub invariant-loop-place : goal.invariant-loop-place
invariant-loop-place l = l.marks.items ≡ l.fn.marks.items ++ first_places (mark_in (diagram_of l.scene.program.now) l.scene.now l.scene.rung l.before) l.place
