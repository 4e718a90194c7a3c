use Rattle.diff_runs.proofs.Never.{never_shown}
use Rattle.diff_runs.proofs.laws.never_shown.Goals as goal

pub returns : goal.returns
returns c = never_shown c.args.old.now c.args.new.now c.args.both.now c.checked.ensures
