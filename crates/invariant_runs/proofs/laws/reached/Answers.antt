use Rattle.invariant_runs.proofs.Running.{runs_stay}
use Rattle.invariant_runs.proofs.laws.reached.Goals as goal

pub returns : goal.returns
returns c = runs_stay c.args.program.now c.checked.ensures c.stays_so.ensures
