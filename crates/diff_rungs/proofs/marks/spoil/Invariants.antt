use Rattle.std.proofs.Common.{◌≡◌, ◌<◌, ℕ, Some, length, slice_get}
use Rattle.diff_matching.specs.declared.matching.Pair.{Pair}
use Rattle.diff_rungs.specs.Marks.{HasMark, number_in}
use Rattle.diff_rungs.proofs.marks.spoil.Given as goal

abbrev pub invariant-loop-n : goal.invariant-loop-n
invariant-loop-n l = record {
  many : length l.marks.items ≡ length l.fn.marks.items;
  before : (k : ℕ) → HasMark l.marks.items k → HasMark l.fn.marks.items k;
  spoiled : (k : ℕ) (x : Pair) → k < l.n → slice_get l.pairs k ≡ Some x → HasMark l.marks.items k → l.at ≡ Some (number_in l.side x) → ⊥;
}
