use Rattle.network_power.proofs.Routes.{same_as}
use Rattle.network_power.proofs.elements.unwired.Goals as goal

pub loop-init : goal.loop-init
loop-init c = record { forth = λ env fed. fed; back = λ env fed. fed }

pub loop-preserved : goal.loop-preserved
loop-preserved c = same_as _ _ _ _ c.loop.invariant c.in-Some.ensures
