use Rattle.std.proofs.Common.{◌≡◌, ◌+◌, []}
use Rattle.scan_partial.specs.Sizes.{HasSizes}
use Rattle.invariant_cases.specs.Buffers.{AreCaseBuffers}
use Rattle.invariant_sets.specs.Invariants.{IsSettledSoAssuming}
use Rattle.invariant_sets.specs.Never.{Bits, IsSetOf, IsWithin, Stays}
use Rattle.invariant_sets.specs.Removing.{size}
use Rattle.invariant_cases.specs.Assuming.{assumed_of}
use Rattle.invariant_sets.proofs.removing_claims.settle.Given as goal

abbrev pub invariant-loop-removed : goal.invariant-loop-removed
invariant-loop-removed l = record {
  set : IsSetOf l.basis.program.now l.set;
  within : IsWithin l.set l.fn.set;
  most : (other : Bits) → IsSetOf l.basis.program.now other → Stays l.basis.program.now other → IsWithin other l.fn.set → IsWithin other l.set;
  settled : l.removed ≡ 0 → IsSettledSoAssuming l.basis.program.now (assumed_of l.basis.assumption) l.set [];
  plain : l.basis.scans ≡ 0 → l.removed ≡ 0 → Stays l.basis.program.now l.set;
  after : HasSizes l.basis.program.now l.after;
  buffers : AreCaseBuffers l.basis.program.now l.buffers;
}

abbrev pub decreases-loop-removed : goal.decreases-loop-removed
decreases-loop-removed l = size l.set + l.removed
