use Rattle.std.proofs.Common.{inr, refl}
use Rattle.cli_assumed.proofs.satisfiable.check_satisfiable.Goals as goal

pub returns-in-Ok-false-clause-refused : goal.returns-in-Ok-false-clause-refused
returns-in-Ok-false-clause-refused c = rw c.in-Some.is (inr (refl, c.in-Ok-false.ensures.none c.in-Ok-false.field-0-test))
