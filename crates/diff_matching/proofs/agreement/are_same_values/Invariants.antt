use Rattle.std.proofs.Common.{◌≡◌, ◌<◌, ℕ, Some, false, slice_get, slice_index_or}
use Rattle.diff_matching.specs.declared.matching.Pair.{Pair}
use Rattle.diff_matching.proofs.agreement.are_same_values.Given as goal

abbrev pub invariant-loop-pair : goal.invariant-loop-pair
invariant-loop-pair l =
    (n : ℕ) (x : Pair) → n < l.pair-index → slice_get l.pairs n ≡ Some x → slice_index_or l.old.held.values x.old false ≡ slice_index_or l.new.held.values x.new false
