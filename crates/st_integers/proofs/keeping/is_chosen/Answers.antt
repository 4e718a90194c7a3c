use Rattle.std.proofs.Common.{arith, refl}
use Rattle.st_integers.proofs.Places.{within}
use Rattle.st_integers.proofs.keeping.is_chosen.Goals as goal

pub returns : goal.returns
returns c = (λ ok k s. c.loop-variable.invariant k (omega (arith, within c.args.values.now c.args.integer k s, c.loop-variable-test.false)) s, λ all. refl)
