use Rattle.std.proofs.Common.{◌<◌, ℕ, slice_index_or}
use Rattle.diagram_declarations.specs.declared.kind.BlockKind.{BlockKind}
use Rattle.diff_matching.specs.declared.matching.Pair.{Pair}
use Rattle.diff_matching.specs.Suited.{AreOfKind}
use Rattle.diff_beside.proofs.suiting.are_of_kinds.Given as goal

abbrev pub invariant-loop-pair : goal.invariant-loop-pair
invariant-loop-pair l = (k : ℕ) (d : Pair) → k < l.pair-index → (kind : BlockKind) × AreOfKind kind l.old l.new (slice_index_or l.pairs k d)
