use Rattle.std.proofs.Common.{◌≡◌, ℕ, Some, slice_index_or, true, false, ◌<◌}
use Rattle.scan_incremental.specs.Resting.{known_next}
use Rattle.scan_incremental.proofs.waking.wake.Given as goal

abbrev pub invariant-loop-rung : goal.invariant-loop-rung
invariant-loop-rung l = record {
  known : (j n : ℕ) → known_next l.next j ≡ Some n → known_next l.fn.next j ≡ Some n;
  awake : (j n : ℕ) → j < l.rung → known_next l.next j ≡ Some n → slice_index_or l.marks j true ≡ false;
}
