use Rattle.std.proofs.Common.{true≢false, sym}
use Rattle.st_integers.proofs.Ones.{is_chosen, is_on}
use Rattle.st_integers.proofs.keeping.has_one.Goals as goal

pub returns-in-Some : goal.returns-in-Some
returns-in-Some c = (
  λ ok. record { variable = c.in-Some.chosen; is_one = c.in-Some.ensures.some.0; each = c.is_chosen.ensures.0 ok },
  λ one. c.is_chosen.ensures.1 (is_chosen c.args.values.now c.args.on.now c.args.integer one c.in-Some.chosen c.in-Some.ensures.some.0 c.in-Some.ensures.some.1),
)

pub returns-in-None : goal.returns-in-None
returns-in-None c = (
  λ ok. absurd (true≢false (sym ok)),
  λ one. absurd (c.in-None.ensures.none one.variable one.is_one (is_on c.args.values.now c.args.on.now c.args.integer one)),
)
