use Rattle.std.proofs.Common.{◌≡◌, ℕ, Some, length, slice_get}
use Rattle.diff_runs.specs.Pulling.{IsPlace}
use Rattle.diff_runs.proofs.pulling.places.Given as goal

abbrev pub invariant-loop-number : goal.invariant-loop-number
invariant-loop-number l = record {
  as_many : length l.places.items ≡ l.number;
  each : (n place : ℕ) → slice_get l.places.items n ≡ Some place → IsPlace l.matching l.part l.both n place;
}
