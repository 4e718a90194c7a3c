use Rattle.std.proofs.Common.{◌∙◌}
use Rattle.scan_held.specs.Holding.{moment_of}
use Rattle.scan_held.proofs.lane_firsts.first_in_lanes.Goals as goal

pub returns-clause-firsts : goal.returns-clause-firsts
returns-clause-firsts c = λ lane l vs stand.
    c.scan_lanes.ensures.firsts lane l
    ∙ c.go_alone.ensures.first c.args.state.now.held (moment_of c.args.watched.first c.args.watched.scans) lane l c.args.inputs.now vs c.args.watched.coil c.args.watched.scans.count stand
