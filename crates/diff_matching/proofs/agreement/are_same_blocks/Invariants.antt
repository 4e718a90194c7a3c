use Rattle.std.proofs.Common.{◌≡◌, ◌<◌, ℕ, Some, slice_get, slice_index_or}
use Rattle.diagram_declarations.specs.declared.kind.BlockKind.TheVariants.{Ton}
use Rattle.scan_signals.specs.Blocks.{new_block}
use Rattle.diff_matching.specs.declared.matching.Pair.{Pair}
use Rattle.diff_matching.proofs.agreement.are_same_blocks.Given as goal

abbrev pub invariant-loop-pair : goal.invariant-loop-pair
invariant-loop-pair l =
    (n : ℕ) (x : Pair) → n < l.pair-index → slice_get l.pairs n ≡ Some x → slice_index_or l.old.held.kept.blocks x.old (new_block Ton) ≡ slice_index_or l.new.held.kept.blocks x.new (new_block Ton)
