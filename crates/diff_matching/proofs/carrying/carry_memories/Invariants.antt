use Rattle.std.proofs.Common.{◌≡◌, false}
use Rattle.scan_cycle.specs.Standing.{with_memories}
use Rattle.diff_matching.proofs.Writing.{IsWrittenBelow}
use Rattle.diff_matching.proofs.carrying.carry_memories.Given as goal

abbrev pub invariant-loop-pair : goal.invariant-loop-pair
invariant-loop-pair l = record {
  written : IsWrittenBelow false l.pairs l.pair-index l.from.held.kept.memories l.fn.to.held.kept.memories l.to.held.kept.memories;
  others : l.to ≡ with_memories l.fn.to l.to.held.kept.memories;
}
