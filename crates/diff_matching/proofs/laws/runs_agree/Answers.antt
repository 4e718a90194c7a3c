use Rattle.diff_matching.proofs.Running.{runs_agree}
use Rattle.diff_matching.proofs.laws.runs_agree.Goals as goal

pub returns : goal.returns
returns c = runs_agree c.args.old.now c.args.new.now c.checked.ensures c.checked-2.ensures
