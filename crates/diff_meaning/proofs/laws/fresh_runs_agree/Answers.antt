use Rattle.diff_meaning.proofs.Nothing.{fresh_agree}
use Rattle.diff_meaning.proofs.laws.fresh_runs_agree.Goals as goal

pub returns : goal.returns
returns c = fresh_agree c.args.old.now c.args.new.now c.nothing-nothing.result c.nothing-nothing.ensures c.fresh_runs_agree_assuming.ensures
