use Rattle.scan_held.proofs.AlikeStarts.{goes_on}
use Rattle.scan_held.proofs.partly_laws.goes_on_alike.Goals as goal

pub returns : goal.returns
returns c = goes_on
