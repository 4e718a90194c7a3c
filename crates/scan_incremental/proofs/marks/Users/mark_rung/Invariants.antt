use Rattle.std.proofs.Common.{ℕ, ◌<◌}
use Rattle.scan_cycle.specs.Programs.{diagram_of}
use Rattle.scan_incremental.specs.Resting.{HasCell, IsMore}
use Rattle.scan_incremental.proofs.marks.Users.mark_rung.Given as goal

abbrev pub invariant-loop-place : goal.invariant-loop-place
invariant-loop-place l = record {
  more : IsMore l.fn.self l.self;
  has : (e : ℕ) → e < l.place → HasCell l.self l.rung ((diagram_of l.program).cell l.rung e);
}
