use Rattle.std.proofs.Common.{◌≡◌, ◌<◌, ◌≤◌, ℕ, get_or, length}
use Rattle.scan_cycle.specs.Programs.{diagram_of}
use Rattle.reach_states.specs.Allowing.{aged}
use Rattle.reach_states.specs.declared.untimed.Untimed.TheVariants.{Anything}
use Rattle.reach_states.proofs.passing.age.Given as goal

abbrev pub invariant-loop-inst : goal.invariant-loop-inst
invariant-loop-inst l = record {
  known : l.known ≡ record l.fn.known { blocks = l.known.blocks };
  many : length l.known.blocks ≡ length l.fn.known.blocks;
  done : (i : ℕ) → i < l.inst → get_or l.known.blocks i Anything ≡ aged l.every ((diagram_of l.program).preset i) (get_or l.fn.known.blocks i Anything);
  rest : (i : ℕ) → l.inst ≤ i → get_or l.known.blocks i Anything ≡ get_or l.fn.known.blocks i Anything;
}
