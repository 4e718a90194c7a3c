use Rattle.st_program.specs.Declarations.{integer}
use Rattle.st_program.proofs.declarations.read_integer.Goals as goal

pub returns-in_ok-initial-in-Local-clause-typed : goal.returns-in_ok-initial-in-Local-clause-typed
returns-in_ok-initial-in-Local-clause-typed c = integer _ _ _ _ c.in-Local.is c.requires c.in_ok-initial-in-Local.ensures.number
