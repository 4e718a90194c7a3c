use Rattle.std.proofs.Common.{◌≡◌, ◌<◌, ℕ, None, get_or, length}
use Rattle.scan_cycle.specs.Programs.{diagram_of}
use Rattle.scan_partial.specs.Sizes.{HasSizes}
use Rattle.scan_held.specs.Holding.{moment_of}
use Rattle.scan_held.specs.SeveralLanes.{first_in_lane, lanes_after}
use Rattle.scan_held.proofs.lane_firsts.scan_lanes.Given as goal

abbrev pub invariant-loop-done : goal.invariant-loop-done
invariant-loop-done l = record {
  known : l.known ≡ lanes_after (diagram_of l.program) (moment_of l.watched.first l.watched.scans) l.inputs l.done l.state.held;
  sizes : HasSizes l.program l.known;
  room : l.room ≡ l.fn.room;
  long : length l.firsts ≡ 64;
  firsts : (lane : ℕ) → lane < 64 → get_or l.firsts lane None
      ≡ first_in_lane (diagram_of l.program) (moment_of l.watched.first l.watched.scans) l.inputs l.state.held l.watched.coil lane l.done;
}
