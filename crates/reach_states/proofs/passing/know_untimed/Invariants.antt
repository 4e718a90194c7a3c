use Rattle.std.proofs.Common.{◌≡◌, ◌<◌, ℕ, get_or, length, map}
use Rattle.diagram_declarations.specs.declared.kind.BlockKind.TheVariants.{Ton}
use Rattle.scan_signals.specs.Blocks.{new_block}
use Rattle.scan_signals.specs.Three.{three_known}
use Rattle.scan_cycle.specs.Programs.{diagram_of}
use Rattle.reach_states.specs.Untimed.{untimed_of}
use Rattle.reach_states.specs.declared.untimed.Untimed.TheVariants.{Anything}
use Rattle.reach_states.proofs.passing.know_untimed.Given as goal

abbrev pub invariant-loop-inst : goal.invariant-loop-inst
invariant-loop-inst l = record {
  values : l.known.values ≡ map three_known l.state.held.values;
  memories : l.known.memories ≡ map three_known l.state.held.kept.memories;
  many : length l.known.blocks ≡ length l.program.decls.instances;
  done : (i : ℕ) → i < l.inst
      → get_or l.known.blocks i Anything ≡ untimed_of ((diagram_of l.program).kind i) ((diagram_of l.program).preset i) l.now (get_or l.state.held.kept.blocks i (new_block Ton));
}
