use Rattle.std.proofs.Common.{◌≡◌}
use Rattle.scan_cycle.specs.Standing.{Fits}
use Rattle.diff_verdicts.proofs.candidate.share_values.Given as goal

abbrev pub invariant-loop-pair : goal.invariant-loop-pair
invariant-loop-pair l = record {
  fits : Fits l.program l.to;
  moment : l.to.moment ≡ l.fn.to.moment;
}
