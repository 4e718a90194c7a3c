use Rattle.scan_signals.specs.RailLaws.{open_rails}
use Rattle.std.proofs.Common.{◌-◌}
use Rattle.scan_signals.proofs.rails.Rails.opened.Goals as goal

pub invariant_of-result : goal.invariant_of-result
invariant_of-result c = rw (c.open_lanes-on.ensures.on, c.open_lanes-on.ensures.off) (open_rails (c.args.shift - c.args.unit))
