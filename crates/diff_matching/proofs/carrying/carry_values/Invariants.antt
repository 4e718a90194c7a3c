use Rattle.std.proofs.Common.{◌≡◌, false}
use Rattle.scan_cycle.specs.Standing.{with_values}
use Rattle.diff_matching.proofs.Writing.{IsWrittenBelow}
use Rattle.diff_matching.proofs.carrying.carry_values.Given as goal

abbrev pub invariant-loop-pair : goal.invariant-loop-pair
invariant-loop-pair l = record {
  written : IsWrittenBelow false l.pairs l.pair-index l.from.held.values l.fn.to.held.values l.to.held.values;
  others : l.to ≡ with_values l.fn.to l.to.held.values;
}
