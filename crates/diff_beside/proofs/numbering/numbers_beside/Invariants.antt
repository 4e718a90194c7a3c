use Rattle.std.proofs.Common.{◌≤◌, ◌+◌}
use Rattle.diff_beside.proofs.numbering.numbers_beside.Given as goal

abbrev pub invariant-loop-var : goal.invariant-loop-var
invariant-loop-var l = l.next ≤ l.olds + l.var
