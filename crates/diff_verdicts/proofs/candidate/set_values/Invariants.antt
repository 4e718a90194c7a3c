use Rattle.std.proofs.Common.{◌≡◌}
use Rattle.scan_cycle.specs.Standing.{Fits}
use Rattle.diff_verdicts.proofs.candidate.set_values.Given as goal

abbrev pub invariant-loop-var : goal.invariant-loop-var
invariant-loop-var l = record {
  fits : Fits l.program l.state;
  moment : l.state.moment ≡ l.fn.state.moment;
}
