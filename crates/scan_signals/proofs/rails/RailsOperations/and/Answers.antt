use Rattle.scan_signals.specs.RailLaws.{meet_rails}
use Rattle.scan_signals.specs.Rails.{lanes}
use Rattle.scan_signals.proofs.rails.RailsOperations.and.Goals as goal

pub invariant_of-result : goal.invariant_of-result
invariant_of-result c = meet_rails (lanes c.self.inside.on c.self.inside.off) (lanes c.other.inside.on c.other.inside.off) c.self.invariant c.other.invariant
