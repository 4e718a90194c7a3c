use Rattle.scan_symbolic.proofs.LookLaws.{look_kept}
use Rattle.scan_symbolic.proofs.laws.related.Goals as goal

pub returns : goal.returns
returns g c = λ at. look_kept _ _ _ (g.met.R.Relation.kept at)
