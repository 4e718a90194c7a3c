use Rattle.st_program.specs.Declarations.{by_default, turned_on, turned_off}
use Rattle.st_program.proofs.declarations.read_initial.Goals as goal

pub returns-in_default-clause-initial : goal.returns-in_default-clause-initial
returns-in_default-clause-initial c = by_default _

pub returns-in-Some-behind-clause-initial : goal.returns-in-Some-behind-clause-initial
returns-in-Some-behind-clause-initial c = turned_on _ _ _ c.in-Some.ensures.marked c.in-Some-behind.ensures.marked

pub returns-in-Some-behind-2-clause-initial : goal.returns-in-Some-behind-2-clause-initial
returns-in-Some-behind-2-clause-initial c = turned_off _ _ _ c.in-Some.ensures.marked c.in-Some-behind-2.ensures.marked
