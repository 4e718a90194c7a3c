use Rattle.scan_cycle.specs.Programs.{diagram_of}
use Rattle.scan_held.proofs.LaneByLane.{go_alone}
use Rattle.scan_held.proofs.lane_laws.go_alone.Goals as goal

pub returns : goal.returns
returns c =
    let d = diagram_of c.args.program.now in
    go_alone d (λ lane now. c.scan_keeps.ensures (record { lane = lane; now = now }) d) c.known_is_scan.ensures
