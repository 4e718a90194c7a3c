use Rattle.std.proofs.Common.{◌≡◌, ◌≤◌, ◌<◌, ℕ}
use Rattle.diff_matching.specs.Names.{IsRanked, rank}
use Rattle.diff_matching.proofs.owner.edge_at.Given as goal

abbrev pub invariant-loop-number : goal.invariant-loop-number
invariant-loop-number l = record {
  counted : l.before ≡ rank l.owners l.owner l.number;
  few : l.before ≤ l.number;
  none : (n : ℕ) → n < l.number → IsRanked l.owners l.owner l.rank n → ⊥;
}
