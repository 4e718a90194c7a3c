use Rattle.std.proofs.Common.{◌≡◌, ◌<◌, ◌≤◌, ℕ, length, slice_index_or}
use Rattle.scan_signals.specs.declared.tri.Tri.TheVariants.{Off}
use Rattle.causes_any_state.specs.Numbers.{known_by, prefix_bit}
use Rattle.causes_any_state.proofs.numbers.give.Given as goal

abbrev pub invariant-loop-var : goal.invariant-loop-var
invariant-loop-var l = record {
  given : (v : ℕ) → v < l.var → slice_index_or l.known.values v Off ≡ known_by (prefix_bit l.listed l.open_bits l.number v) (slice_index_or l.fn.known.values v Off);
  rest : (v : ℕ) → l.var ≤ v → slice_index_or l.known.values v Off ≡ slice_index_or l.fn.known.values v Off;
  as_many : length l.known.values ≡ length l.fn.known.values;
  memories : l.known.memories ≡ l.fn.known.memories;
  blocks : l.known.blocks ≡ l.fn.known.blocks;
}
