use Rattle.std.proofs.Common.{arith, refl}
use Rattle.st_integers.proofs.Places.{within}
use Rattle.st_integers.proofs.keeping.have_one.Goals as goal

pub returns : goal.returns
returns c = (λ ok integer k s. c.loop-variable.invariant k (omega (arith, within c.args.values.now integer k s, c.loop-variable-test.false)) integer s, λ all. refl)
