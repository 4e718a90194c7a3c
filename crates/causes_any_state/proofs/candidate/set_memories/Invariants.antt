use Rattle.std.proofs.Common.{◌≡◌}
use Rattle.scan_cycle.specs.Standing.{Fits}
use Rattle.causes_any_state.proofs.candidate.set_memories.Given as goal

abbrev pub invariant-loop-number : goal.invariant-loop-number
invariant-loop-number l = record {
  fits : Fits l.program l.state;
  moment : l.state.moment ≡ l.fn.state.moment;
  values : l.state.held.values ≡ l.fn.state.held.values;
}
