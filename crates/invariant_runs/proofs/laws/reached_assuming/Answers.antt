use Rattle.invariant_runs.proofs.Running.{runs_stay_assuming}
use Rattle.invariant_runs.proofs.laws.reached_assuming.Goals as goal

pub returns : goal.returns
returns c = runs_stay_assuming c.args.program.now c.checked.ensures c.stays_assuming.ensures
