use Rattle.std.proofs.Common.{ℕ, ◌<◌, get_or}
use Rattle.diagram_declarations.specs.declared.kind.BlockKind.TheVariants.{Ton}
use Rattle.scan_signals.specs.Blocks.{new_block}
use Rattle.scan_cycle.specs.Programs.{diagram_of}
use Rattle.scan_held.specs.Shifting.{IsLater}
use Rattle.scan_held.proofs.later.later_blocks.Given as goal

abbrev pub invariant-loop-inst : goal.invariant-loop-inst
invariant-loop-inst l = (k : ℕ) → k < l.inst →
    IsLater ((diagram_of l.program).preset k) l.moment l.shift (get_or l.before.held.kept.blocks k (new_block Ton)) (get_or l.after.held.kept.blocks k (new_block Ton))
