use Rattle.diff_runs.proofs.Shown.{shown}
use Rattle.diff_runs.proofs.laws.shown.Goals as goal

pub returns : goal.returns
returns c = shown c.args.old.now c.args.new.now c.args.both.now c.checked.ensures c.checked-2.ensures c.checked-3.ensures c.allowed_where_given.ensures c.allowed_where_given-2.ensures
