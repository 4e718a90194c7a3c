use Rattle.scan_held.proofs.ComingAgain.{repeats}
use Rattle.scan_held.proofs.partly_laws.repeats.Goals as goal

pub returns : goal.returns
returns c = λ d. repeats d (c.goes_on_alike.ensures d)
