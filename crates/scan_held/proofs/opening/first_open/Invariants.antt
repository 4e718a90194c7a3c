use Rattle.std.proofs.Common.{◌≡◌, ◌<◌, ◌≤◌, None}
use Rattle.scan_cycle.specs.Programs.{diagram_of}
use Rattle.scan_partial.specs.Sizes.{HasSizes}
use Rattle.scan_held.specs.Holding.{moment_of}
use Rattle.scan_held.specs.SeveralLaws.{first_open, partly_after}
use Rattle.scan_held.proofs.opening.first_open.Given as goal

abbrev pub invariant-loop-done : goal.invariant-loop-done
invariant-loop-done l = record {
  known : l.known ≡ partly_after (diagram_of l.program) (moment_of l.watched.first l.watched.scans) l.inputs l.done l.state.held;
  sizes : HasSizes l.program l.known;
  room : l.room ≡ l.fn.room;
  mark : HasSizes l.program l.mark;
  marked : 0 < l.marked → l.mark ≡ partly_after (diagram_of l.program) (moment_of l.watched.first l.watched.scans) l.inputs l.marked l.state.held;
  before : l.marked ≤ l.done;
  none : first_open (diagram_of l.program) (moment_of l.watched.first l.watched.scans) l.inputs l.state.held l.watched.coil l.done ≡ None;
}
