use Rattle.std.proofs.Common.{◌≡◌, ◌<◌, ◌≤◌, ℕ, cond, get_or, length}
use Rattle.std.specs.Int.{bit_at}
use Rattle.diagram_declarations.specs.declared.kind.BlockKind.TheVariants.{Ton}
use Rattle.scan_signals.specs.Blocks.{new_block, q_of}
use Rattle.scan_held.specs.Lanes.{stepped, stored_in}
use Rattle.scan_held.proofs.lane_stepping.step_each.Given as goal

abbrev pub invariant-loop-lane : goal.invariant-loop-lane
invariant-loop-lane l = record {
  long : length l.stored ≡ 64;
  done : (i : ℕ) → i < l.lane → get_or l.stored i (new_block Ton) ≡ stepped l.kind l.preset l.before l.first l.second l.now i;
  ahead : (i : ℕ) → l.lane ≤ i → i < 64 → get_or l.stored i (new_block Ton) ≡ stored_in l.before i;
  below : (i : ℕ) → i < l.lane → bit_at l.q i ≡ cond (q_of (stepped l.kind l.preset l.before l.first l.second l.now i)) 1 0;
  above : (i : ℕ) → l.lane ≤ i → bit_at l.q i ≡ 0;
}
