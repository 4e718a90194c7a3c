use Rattle.std.proofs.Common.{arith, sym}
use Rattle.cli_states.proofs.PossibleEnds.{counts_some}
use Rattle.cli_states.proofs.possible.counts_of.Goals as goal

pub returns-in_default : goal.returns-in_default
returns-in_default c = sym (counts_some c.args.expressions c.args.rows c.args.unsettled (omega arith))
