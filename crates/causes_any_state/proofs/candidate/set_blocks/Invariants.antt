use Rattle.std.proofs.Common.{◌≡◌}
use Rattle.scan_cycle.specs.Standing.{Fits}
use Rattle.causes_any_state.specs.declared.content.TheConstants.{MOMENT}
use Rattle.causes_any_state.proofs.candidate.set_blocks.Given as goal

abbrev pub invariant-loop-inst : goal.invariant-loop-inst
invariant-loop-inst l = record {
  fits : Fits l.program l.state;
  moment : l.state.moment ≡ MOMENT;
  values : l.state.held.values ≡ l.fn.state.held.values;
}
