use Rattle.std.proofs.Common.{◌&&◌, ap₂}
use Rattle.draw_power.proofs.part.Pair.inverse.Goals as goal

pub returns-clause-inverse : goal.returns-clause-inverse
returns-clause-inverse c = λ f. ap₂ (λ a b. a && b) (c.turned.ensures.turned f) (c.turned-2.ensures.turned f)
