use Rattle.std.proofs.Common.{◌≡◌, ◌<◌, ℕ, false, length}
use Rattle.diff_rungs.specs.Marks.{HasMark}
use Rattle.diff_rungs.proofs.marks.narrow_list.Given as goal

abbrev pub invariant-loop-n : goal.invariant-loop-n
invariant-loop-n l = record {
  many : length l.marks.items ≡ length l.fn.marks.items;
  before : (k : ℕ) → HasMark l.marks.items k → HasMark l.fn.marks.items k;
  first : (k : ℕ) → k < l.n → HasMark l.marks.items k → l.surely ≡ false → HasMark l.first k;
}
