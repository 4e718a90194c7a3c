use Rattle.invariant_sets.proofs.ForEver.{all_allowed}
use Rattle.invariant_sets.proofs.laws.nothing_assumed.Goals as goal

pub returns : goal.returns
returns c = all_allowed c.args.program.now
