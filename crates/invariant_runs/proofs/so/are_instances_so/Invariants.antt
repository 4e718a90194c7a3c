use Rattle.std.proofs.Common.{◌≡◌, ◌<◌, ℕ, Bool, slice_index_or}
use Rattle.diagram_declarations.specs.declared.kind.BlockKind.TheVariants.{Ton}
use Rattle.scan_signals.specs.Blocks.{new_block, q_of}
use Rattle.invariant_sets.specs.Never.{claims}
use Rattle.scan_signals.specs.Three.{three_known}
use Rattle.invariant_runs.proofs.so.are_instances_so.Given as goal

abbrev pub invariant-loop-inst : goal.invariant-loop-inst
invariant-loop-inst l = (i : ℕ) → i < l.inst → (value : Bool) → claims l.set.instances i ≡ three_known value
    → q_of (slice_index_or l.state.held.kept.blocks i (new_block Ton)) ≡ value
