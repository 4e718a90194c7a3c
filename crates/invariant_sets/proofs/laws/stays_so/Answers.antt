use Rattle.invariant_sets.proofs.ForEver.{stays_for_ever}
use Rattle.invariant_sets.proofs.laws.stays_so.Goals as goal

pub returns : goal.returns
returns c = stays_for_ever c.args.program.now c.stays_assuming.ensures
