use Rattle.std.proofs.Common.{◌≡◌, ◌<◌, ◌≤◌, None}
use Rattle.scan_cycle.specs.Programs.{diagram_of}
use Rattle.scan_cycle.specs.Standing.{Fits}
use Rattle.scan_held.specs.Holding.{after_scans, first_on, moment_of}
use Rattle.scan_held.proofs.scans.first_on.Given as goal

abbrev pub invariant-loop-done : goal.invariant-loop-done
invariant-loop-done l = record {
  held : l.state.held ≡ after_scans (diagram_of l.program) (moment_of l.first l.scans) l.inputs l.done l.fn.state.held;
  fits : Fits l.program l.state;
  later : l.state.moment ≤ moment_of l.first l.scans l.done;
  mark : Fits l.program l.mark;
  marked : 0 < l.marked → l.mark.held ≡ after_scans (diagram_of l.program) (moment_of l.first l.scans) l.inputs l.marked l.fn.state.held;
  before : l.marked ≤ l.done;
  none : first_on (diagram_of l.program) (moment_of l.first l.scans) l.inputs l.fn.state.held l.coil l.done ≡ None;
}
