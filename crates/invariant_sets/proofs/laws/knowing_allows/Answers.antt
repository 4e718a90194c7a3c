use Rattle.invariant_sets.proofs.ForEver.{knowing_allows}
use Rattle.invariant_sets.proofs.laws.knowing_allows.Goals as goal

pub returns : goal.returns
returns c = knowing_allows c.args.program.now
