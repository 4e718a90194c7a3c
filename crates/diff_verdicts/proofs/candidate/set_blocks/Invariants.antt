use Rattle.std.proofs.Common.{◌≡◌}
use Rattle.scan_cycle.specs.Standing.{Fits}
use Rattle.diff_meaning.specs.declared.verdict.TheConstants.{MOMENT}
use Rattle.diff_verdicts.proofs.candidate.set_blocks.Given as goal

abbrev pub invariant-loop-inst : goal.invariant-loop-inst
invariant-loop-inst l = record {
  fits : Fits l.program l.state;
  moment : l.state.moment ≡ MOMENT;
}
