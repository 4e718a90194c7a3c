use Rattle.invariant_sets.proofs.Allowed.{allows_given}
use Rattle.invariant_sets.proofs.laws.allowed_where_given.Goals as goal

pub returns : goal.returns
returns c = allows_given c.args.program.now c.checked.ensures
