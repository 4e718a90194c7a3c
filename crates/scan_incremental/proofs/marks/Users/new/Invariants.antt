use Rattle.std.proofs.Common.{ℕ, ◌<◌}
use Rattle.diagram_program.specs.declared.geometry.TheConstants.{PLACES}
use Rattle.scan_cycle.specs.Programs.{diagram_of}
use Rattle.scan_incremental.specs.Resting.{HasCell}
use Rattle.scan_incremental.proofs.marks.Users.new.Given as goal

abbrev pub invariant-loop-rung : goal.invariant-loop-rung
invariant-loop-rung l = (j e : ℕ) → j < l.rung → e < PLACES → HasCell l.users j ((diagram_of l.program).cell j e)
