use Rattle.scan_cycle.specs.Programs.{diagram_of}
use Rattle.scan_cycle.specs.Runs.{after_each}
use Rattle.cli_reach.proofs.finding.is_excluded.Goals as goal

pub returns : goal.returns
returns c = λ shut scans asked some.
    let after = after_each (diagram_of c.args.asked.now.program) scans c.args.asked.now.state.held in
    rw c.deref.ensures.value at c.is_shut_out.ensures shut after (c.in_ok-steady.ensures.so scans)
