use Rattle.std.proofs.Common.{◌≡◌}
use Rattle.diagram_declarations.specs.declared.kind.BlockKind.TheVariants.{Ton}
use Rattle.scan_signals.specs.Blocks.{new_block}
use Rattle.scan_cycle.specs.Standing.{with_blocks}
use Rattle.diff_matching.proofs.Writing.{IsWrittenBelow}
use Rattle.diff_matching.proofs.carrying.carry_blocks.Given as goal

abbrev pub invariant-loop-pair : goal.invariant-loop-pair
invariant-loop-pair l = record {
  written : IsWrittenBelow (new_block Ton) l.pairs l.pair-index l.from.held.kept.blocks l.fn.to.held.kept.blocks l.to.held.kept.blocks;
  others : l.to ≡ with_blocks l.fn.to l.to.held.kept.blocks;
}
