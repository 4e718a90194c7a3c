use Rattle.std.proofs.Common.{◌≡◌, ◌<◌, ◌≤◌, ℕ, cond, get_or}
use Rattle.std.specs.Int.{bit_at}
use Rattle.diagram_declarations.specs.declared.kind.BlockKind.TheVariants.{Ton}
use Rattle.scan_signals.specs.Blocks.{new_block, q_of}
use Rattle.scan_held.proofs.lane_stepping.apart.Given as goal

abbrev pub invariant-loop-lane : goal.invariant-loop-lane
invariant-loop-lane l = record {
  below : (i : ℕ) → i < l.lane → bit_at l.q i ≡ cond (q_of (get_or l.stored i (new_block Ton))) 1 0;
  above : (i : ℕ) → l.lane ≤ i → bit_at l.q i ≡ 0;
}
