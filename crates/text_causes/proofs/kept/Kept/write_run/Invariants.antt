use Rattle.std.proofs.Common.{◌≡◌, ◌*◌, ◌≤◌, ◌++◌, ℕ, length, take}
use Rattle.std.specs.Int.{bit_at}
use Rattle.search_tree.specs.Marked.{marked}
use Rattle.text_causes.specs.Rows.{rows}
use Rattle.text_causes.proofs.kept.Kept.write_run.Given as goal

abbrev pub invariant-loop-left : goal.invariant-loop-left
invariant-loop-left l = record {
  room : length l.text ≡ 5120;
  rows : rows l.listed (marked l.run.number l.run.mask) ≡ take l.used l.text ++ rows l.listed (marked l.run.number l.left);
  within : (j : ℕ) → bit_at l.left j ≡ 1 → bit_at l.run.mask j ≡ 1;
  low : (j : ℕ) → bit_at l.left j ≡ 1 → l.used ≤ 77 * j;
  short : l.used ≤ 4928;
}

abbrev pub decreases-loop-left : goal.decreases-loop-left
decreases-loop-left l = l.left
