use Rattle.std.proofs.Common.{◌≡◌, ◌≤◌}
use Rattle.plc_text.proofs.diagram.Diagram.+write_sum.Given as goal

abbrev pub decreases-write_sum : goal.decreases-write_sum
decreases-write_sum l = l.left

abbrev pub invariant-loop : goal.invariant-loop
invariant-loop l = record {
  some : 1 ≤ l.left;
  same : l.left ≡ l.fn.left;
}
