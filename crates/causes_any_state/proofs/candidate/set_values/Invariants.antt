use Rattle.std.proofs.Common.{◌≡◌, ◌<◌, ℕ, Bool, false, Some, slice_index_or}
use Rattle.scan_cycle.specs.Standing.{Fits}
use Rattle.causes_any_state.specs.Numbers.{prefix_bit}
use Rattle.causes_any_state.proofs.candidate.set_values.Given as goal

abbrev pub invariant-loop-var : goal.invariant-loop-var
invariant-loop-var l = record {
  fits : Fits l.asked.program.now l.state;
  moment : l.state.moment ≡ l.fn.state.moment;
  bits : (v : ℕ) (b : Bool) → v < l.var → prefix_bit l.asked.listed.now 0 l.asked.number v ≡ Some b → slice_index_or l.state.held.values v false ≡ b;
}
