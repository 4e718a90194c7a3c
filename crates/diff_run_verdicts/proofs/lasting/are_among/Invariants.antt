use Rattle.std.proofs.Common.{◌<◌, ℕ, slice_index_or}
use Rattle.diff_matching.specs.declared.matching.Pair.{Pair}
use Rattle.diff_run_verdicts.specs.Lasting.{IsOneOf}
use Rattle.diff_run_verdicts.proofs.lasting.are_among.Given as goal

abbrev pub invariant-loop-pair : goal.invariant-loop-pair
invariant-loop-pair l = (k : ℕ) (d : Pair) → k < l.pair-index → IsOneOf l.pairs (slice_index_or l.some k d)
