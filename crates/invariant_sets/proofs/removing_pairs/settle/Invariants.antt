use Rattle.std.proofs.Common.{◌≡◌, ◌+◌, length}
use Rattle.std.specs.Prelude.{All, Contains}
use Rattle.invariant_cases.specs.Buffers.{KeepBuffers}
use Rattle.invariant_sets.specs.Pairs.{IsExcludedAssuming, IsToldApart}
use Rattle.invariant_cases.specs.declared.pair.Pair.{Pair}
use Rattle.invariant_cases.specs.Assuming.{assumed_of}
use Rattle.invariant_sets.proofs.removing_pairs.settle.Given as goal

abbrev pub invariant-loop-removed : goal.invariant-loop-removed
invariant-loop-removed l = record {
  told : (pair : Pair) → IsToldApart l.basis.program.now pair l.fn.buffers.case → Contains l.fn.pairs.items pair → Contains l.pairs.items pair;
  within : All (Contains l.fn.pairs.items) l.pairs.items;
  excluded : l.removed ≡ 0 → All (λ pair. IsExcludedAssuming l.basis.program.now (assumed_of l.basis.assumption) l.pairs.items pair l.fn.buffers.case) l.pairs.items;
  buffers : KeepBuffers l.basis.program.now l.fn.buffers l.buffers;
}

abbrev pub decreases-loop-removed : goal.decreases-loop-removed
decreases-loop-removed l = length l.pairs.items + l.removed
