use Rattle.std.specs.Prelude.{◌≡◌, ◌≤◌, ◌+◌, List}
use Rattle.scan_incremental.specs.Resting.{IsTrueOf}
use Rattle.scan_cycle.specs.Programs.{diagram_of}
use Rattle.scan_cycle.specs.Standing.{Fits}
use Rattle.io_text.specs.Log.{WriteLog}
use Rattle.text_trace.specs.Coming.{IsSound}
use Rattle.text_trace.specs.Filled.{Numbered}
use Rattle.text_trace.specs.Room.{IsReady}
use Rattle.text_trace.specs.Steps.{IsGoing, as_lines, as_run}
use Rattle.text_trace.proofs.simulation.follow_rows.Given as goal

abbrev pub invariant-loop-done : goal.invariant-loop-done
invariant-loop-done g l =
    IsSound l.columns l.filling
    × Fits l.run.program.now l.state
    × IsReady l.run.program.now l.room
    × (l.done ≤ (as_run l.run).most)
    × (l.filling.number ≤ l.done + 2)
    × ((all : List Numbered) (log : WriteLog) → IsGoing (as_run l.run) l.run.program.now l.columns l.fn.state all 0 l.fn.state log (g.W.Sink.log l.fn.writer) l.fn.filling
    → IsGoing (as_run l.run) l.run.program.now l.columns l.fn.state all l.done l.state log (g.W.Sink.log l.writer) l.filling)
    × IsTrueOf (diagram_of l.run.program.now) l.state.moment l.state.held l.room.resting
    × ((all : List Numbered) (told : WriteLog) → IsGoing (as_lines l.run) l.run.program.now l.columns l.fn.state all 0 l.fn.state told (g.E.Sink.log l.fn.err) l.fn.filling
    → IsGoing (as_lines l.run) l.run.program.now l.columns l.fn.state all l.done l.state told (g.E.Sink.log l.err) l.filling)
    × (l.run.lines ≡ 0 → g.E.Sink.log l.err ≡ g.E.Sink.log l.fn.err)
