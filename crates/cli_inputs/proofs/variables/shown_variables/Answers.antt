use Rattle.std.proofs.Common.{refl, []}
use Rattle.cli_inputs.proofs.variables.shown_variables.Goals as goal

pub returns-in-Err-listed_variables-clause-fault : goal.returns-in-Err-listed_variables-clause-fault
returns-in-Err-listed_variables-clause-fault c = rw c.in-None.is (c.in-Err-listed_variables.ensures.fault [] [] refl refl)
