use Rattle.std.proofs.Common.{arith}
use Rattle.st_integers.proofs.Places.{within}
use Rattle.st_integers.proofs.keeping.first_on.Goals as goal

pub returns-clause-none : goal.returns-clause-none
returns-clause-none c = λ k s. c.loop-variable.invariant k (omega (arith, within c.args.values.now c.args.integer k s, c.loop-variable-test.false)) s
