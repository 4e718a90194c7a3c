use Rattle.std.proofs.Common.{◌≡◌, ◌≤◌, ◌+◌, ◌-◌, length, take}
use Rattle.std.specs.Prelude.{All, Contains}
use Rattle.invariant_cases.specs.Buffers.{KeepBuffers}
use Rattle.invariant_sets.specs.Pairs.{IsExcludedAssuming, IsToldApart}
use Rattle.invariant_cases.specs.declared.pair.Pair.{Pair}
use Rattle.invariant_cases.specs.Assuming.{assumed_of}
use Rattle.invariant_sets.proofs.removing_pairs.remove.Given as goal

abbrev pub invariant-loop-number : goal.invariant-loop-number
invariant-loop-number l = record {
  few : l.number ≤ length l.pairs.items;
  told : (pair : Pair) → IsToldApart l.basis.program.now pair l.fn.buffers.case → Contains l.fn.pairs.items pair → Contains l.pairs.items pair;
  within : All (Contains l.fn.pairs.items) l.pairs.items;
  count : length l.pairs.items + l.removed ≡ length l.fn.pairs.items;
  excluded : l.removed ≡ 0 → All (λ pair. IsExcludedAssuming l.basis.program.now (assumed_of l.basis.assumption) l.pairs.items pair l.fn.buffers.case) (take l.number l.pairs.items);
  buffers : KeepBuffers l.basis.program.now l.fn.buffers l.buffers;
}

abbrev pub decreases-loop-number : goal.decreases-loop-number
decreases-loop-number l = length l.pairs.items - l.number
