use Rattle.std.proofs.Common.{◌≡◌, ℕ, ◌<◌, Some, true, false, slice_index_or}
use Rattle.scan_incremental.specs.Resting.{known_next, marked}
use Rattle.scan_incremental.proofs.scanning.wake_changed.Given as goal

abbrev pub invariant-loop-var : goal.invariant-loop-var
invariant-loop-var l = record {
  known : (j n : ℕ) → known_next l.next j ≡ Some n → known_next l.fn.next j ≡ Some n;
  same : (j n v : ℕ) → v < l.var → known_next l.next j ≡ Some n → marked l.users.variables v j ≡ true → slice_index_or l.storage.values v false ≡ slice_index_or l.before v false;
}
