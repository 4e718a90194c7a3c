use Rattle.std.proofs.Common.{◌≤◌}
use Rattle.scan_cycle.specs.Standing.{Fits}
use Rattle.reach_runs.specs.Asking.{question_of}
use Rattle.reach_runs.specs.Rhythm.{next_after}
use Rattle.reach_runs.proofs.Replaying.{AreMade}
use Rattle.reach_runs.proofs.replay.switches_on.Given as goal

abbrev pub invariant-loop-done : goal.invariant-loop-done
invariant-loop-done l =
    let from = next_after l.query.timing l.query.from l.last in
    record {
      made : AreMade (question_of l.query) l.run l.done from l.state.held;
      moment : l.state.moment ≤ from;
      fits : Fits l.query.program.now l.state;
    }
