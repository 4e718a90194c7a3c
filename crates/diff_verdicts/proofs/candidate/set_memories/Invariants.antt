use Rattle.std.proofs.Common.{◌≡◌}
use Rattle.scan_cycle.specs.Standing.{Fits}
use Rattle.diff_verdicts.proofs.candidate.set_memories.Given as goal

abbrev pub invariant-loop-number : goal.invariant-loop-number
invariant-loop-number l = record {
  fits : Fits l.program l.state;
  moment : l.state.moment ≡ l.fn.state.moment;
}
