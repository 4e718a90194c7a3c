use Rattle.std.proofs.Common.{◌≡◌, ◌<◌, ◌+◌, ℕ, length, slice_get}
use Rattle.diagram_program.specs.Program.{has_second}
use Rattle.diff_beside.proofs.fitting.are_instances_in.Given as goal

abbrev pub invariant-loop-inst : goal.invariant-loop-inst
invariant-loop-inst l =
    (i : ℕ) → i < l.inst → (l.before + i < length l.there) × (has_second (slice_get l.there (l.before + i)) ≡ has_second (slice_get l.instances i))
