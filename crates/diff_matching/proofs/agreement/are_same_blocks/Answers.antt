use Rattle.std.proofs.Common.{arith, refl}
use Rattle.std.proofs.lemmas.Option.{slice_get_within}
use Rattle.diff_matching.proofs.agreement.are_same_blocks.Goals as goal

pub returns : goal.returns
returns c = (
  λ yes n x is. c.loop-pair.invariant n x (let within = slice_get_within c.args.pairs.now n x is in omega arith) is,
  λ same. refl,
)
