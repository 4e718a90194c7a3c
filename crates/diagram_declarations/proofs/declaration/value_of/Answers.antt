use Rattle.diagram_declarations.proofs.TimeLaws.{time_is}
use Rattle.diagram_declarations.proofs.declaration.value_of.Goals as goal

pub returns-in-Time-clause-value : goal.returns-in-Time-clause-value
returns-in-Time-clause-value c = rw c.in-Time.is (time_is _ _ c.read_time.ensures.some c.read_time.ensures.none)
