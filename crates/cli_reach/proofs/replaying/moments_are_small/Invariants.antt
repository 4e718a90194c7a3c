use Rattle.std.proofs.Common.{◌<◌, ◌^◌, ℕ, length, slice_index_or}
use Rattle.scan_cycle.specs.Runs.{OneScan}
use Rattle.cli_reach.proofs.replaying.moments_are_small.Given as goal

abbrev pub invariant-loop-number : goal.invariant-loop-number
invariant-loop-number l = (number : ℕ) → number < l.number → (other : OneScan) → number < length l.run → (slice_index_or l.run number other).moment < 2 ^ 64
