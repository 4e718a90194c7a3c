use Rattle.std.proofs.Common.{◌≡◌, ◌<◌, ℕ, get_or, length}
use Rattle.diagram_declarations.specs.declared.kind.BlockKind.TheVariants.{Ton}
use Rattle.scan_signals.specs.Blocks.{new_block}
use Rattle.scan_held.specs.Lanes.{chosen}
use Rattle.scan_held.proofs.lane_stepping.choices.Given as goal

abbrev pub invariant-loop-lane : goal.invariant-loop-lane
invariant-loop-lane l = record {
  long : length l.stored ≡ 64;
  so_far : (i : ℕ) → i < l.lane → get_or l.stored i (new_block Ton) ≡ chosen l.condition l.on l.off i;
}
