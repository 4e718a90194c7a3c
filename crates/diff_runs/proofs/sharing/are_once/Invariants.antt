use Rattle.std.proofs.Common.{◌≢◌, ◌<◌, ℕ, slice_index_or}
use Rattle.diff_matching.specs.declared.matching.Pair.{Pair}
use Rattle.diff_runs.proofs.sharing.are_once.Given as goal

abbrev pub invariant-loop-number : goal.invariant-loop-number
invariant-loop-number l = (i j : ℕ) (d : Pair) → i < j → j < l.number
    → ((slice_index_or l.pairs i d).old ≢ (slice_index_or l.pairs j d).old) × ((slice_index_or l.pairs i d).new ≢ (slice_index_or l.pairs j d).new)
