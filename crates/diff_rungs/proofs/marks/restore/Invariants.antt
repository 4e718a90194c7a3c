use Rattle.std.proofs.Common.{◌≡◌, ◌⊎◌, ℕ, Some, length, slice_get}
use Rattle.diff_matching.specs.declared.matching.Pair.{Pair}
use Rattle.diff_rungs.specs.Marks.{HasMark}
use Rattle.diff_rungs.proofs.marks.restore.Given as goal

abbrev pub invariant-loop-n : goal.invariant-loop-n
invariant-loop-n l = record {
  many : length l.marks.items ≡ length l.fn.marks.items;
  restored : (k : ℕ) (x : Pair) → slice_get l.pairs k ≡ Some x → HasMark l.marks.items k → ((l.old ≡ Some x.old) × (l.new ≡ Some x.new)) ⊎ HasMark l.fn.marks.items k;
}
