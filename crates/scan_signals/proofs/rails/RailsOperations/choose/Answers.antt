use Rattle.scan_signals.specs.RailLaws.{choice_rails}
use Rattle.scan_signals.specs.Rails.{lanes}
use Rattle.scan_signals.proofs.rails.RailsOperations.choose.Goals as goal

pub invariant_of-result : goal.invariant_of-result
invariant_of-result c = choice_rails (lanes c.condition.inside.on c.condition.inside.off) (lanes c.on.inside.on c.on.inside.off) (lanes c.off.inside.on c.off.inside.off) c.condition.invariant c.on.invariant c.off.invariant
