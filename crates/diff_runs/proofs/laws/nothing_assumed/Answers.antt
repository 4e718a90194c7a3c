use Rattle.diff_runs.proofs.Joint.{always}
use Rattle.diff_runs.proofs.laws.nothing_assumed.Goals as goal

pub returns : goal.returns
returns c = always c.args.old.now c.args.new.now
