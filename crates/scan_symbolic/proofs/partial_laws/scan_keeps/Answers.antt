use Rattle.scan_symbolic.proofs.KnownKept.{scan_keeps}
use Rattle.scan_symbolic.proofs.partial_laws.scan_keeps.Goals as goal

pub returns : goal.returns
returns g c = λ at d. scan_keeps _ _ _ _ _ _ _ _ d (g.met.R.StepRelation.kept at) (g.R.StepRelation.steps at d)
