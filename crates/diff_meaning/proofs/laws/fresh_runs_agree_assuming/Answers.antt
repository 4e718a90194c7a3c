use Rattle.diff_meaning.proofs.Equivalent.{fresh_agree_assuming}
use Rattle.diff_meaning.proofs.laws.fresh_runs_agree_assuming.Goals as goal

pub returns : goal.returns
returns c = fresh_agree_assuming c.args.old.now c.args.new.now c.checked.ensures c.checked-2.ensures c.stays_assuming.ensures c.stays_assuming-2.ensures
