-- Private: what the cursor over the runs keeps.
use Rattle.std.specs.Prelude.{◌≡◌, ◌+◌, length, List, option_map}
use Rattle.scan_cycle.specs.Programs.{diagram_of}
use Rattle.scan_cycle.specs.Runs.{OneScan, after_each}
use Rattle.scan_cycle.specs.Standing.{Fits}
use Rattle.causes_any_state.specs.declared.claim.Claim.TheVariants.{Possible}
use Rattle.causes_query.specs.Assignment.{input_variables}
use Rattle.invariant_sets.specs.Never.{IsSo}
use Rattle.causes_in_runs.specs.Rows.{AllCount}
use Rattle.causes_in_runs.specs.declared.cursor.RunCauses.TheInside.{Inside}

-- They are for the program, and what never changes is so after any scans from the state.
pub record AreRunBuffers (c : Inside) : Type 0 where
  pub fits : Fits c.causes.program c.state.now
  pub claim : c.causes.claim ≡ Possible
  pub assumed : c.causes.assumed ≡ option_map (λ e. e.now) c.assumed
  pub counts : AllCount c.causes.assumed c.causes.program c.state.now c.causes.states
  pub inputs : c.inputs.items ≡ input_variables (diagram_of c.causes.program).inputs
  pub room : length c.target.items ≡ length c.causes.listed + 1
  pub steady : (scans : List OneScan) → IsSo c.steady (after_each (diagram_of c.causes.program) scans c.state.now.held)
