use Rattle.diff_runs.proofs.Never.{not_shown}
use Rattle.diff_runs.proofs.laws.not_shown.Goals as goal

pub returns : goal.returns
returns c = not_shown c.args.old.now c.args.new.now c.args.both.now c.checked.ensures
