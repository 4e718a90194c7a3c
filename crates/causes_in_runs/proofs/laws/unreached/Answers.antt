use Rattle.causes_in_runs.proofs.Coming.{runs_lead}
use Rattle.causes_in_runs.proofs.laws.unreached.Goals as goal

pub returns : goal.returns
returns c = runs_lead c.args.program.now c.checked-2.ensures c.checked.ensures c.allowed_where_given.ensures
