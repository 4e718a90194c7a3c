use Rattle.scan_partial.specs.Sizes.{HasSizes}
use Rattle.invariant_cases.specs.Buffers.{AreCaseBuffers}
use Rattle.invariant_sets.specs.Removing.{IsLeftOf, size}
use Rattle.invariant_sets.proofs.together.settle.Given as goal

abbrev pub invariant-loop-pairs : goal.invariant-loop-pairs
invariant-loop-pairs l = record {
  left : IsLeftOf l.start.program.now l.fn.set l.set;
  after : HasSizes l.start.program.now l.after;
  buffers : AreCaseBuffers l.start.program.now l.buffers;
}

abbrev pub decreases-loop-pairs : goal.decreases-loop-pairs
decreases-loop-pairs l = size l.set
