use Rattle.std.proofs.Common.{◌≡◌, ◌<◌, ℕ, slice_index_or}
use Rattle.diagram_declarations.specs.declared.kind.BlockKind.TheVariants.{Ton}
use Rattle.scan_signals.specs.Blocks.{q_of, new_block}
use Rattle.invariant_sets.specs.Never.{claims}
use Rattle.scan_signals.specs.Three.{three_known}
use Rattle.invariant_sets.proofs.first_claims.begin_instances.Given as goal

abbrev pub invariant-loop-inst : goal.invariant-loop-inst
invariant-loop-inst l = (inst : ℕ) → inst < l.inst → claims l.instances inst ≡ three_known (q_of (slice_index_or l.state.held.kept.blocks inst (new_block Ton)))
