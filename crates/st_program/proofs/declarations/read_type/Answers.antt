use Rattle.st_program.specs.Declarations.{bool}
use Rattle.st_program.proofs.declarations.read_type.Goals as goal

pub returns-in-Some-clause-typed : goal.returns-in-Some-clause-typed
returns-in-Some-clause-typed c = bool _ _ _ _ _ c.in-Some.ensures.marked c.in_ok-initial.ensures.initial
