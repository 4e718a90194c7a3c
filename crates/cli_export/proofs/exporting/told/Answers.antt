use Rattle.std.proofs.Common.{inr}
use Rattle.cli_export.proofs.exporting.told.Goals as goal

pub returns-in-Err-clause-said : goal.returns-in-Err-clause-said
returns-in-Err-clause-said g c = inr c.in-Err.ensures
