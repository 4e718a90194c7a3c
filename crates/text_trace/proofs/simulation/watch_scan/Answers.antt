use Rattle.std.proofs.Common.{rules}
use Rattle.text_trace.specs.Trace.{watched_row}
use Rattle.text_trace.proofs.simulation.watch_scan.Goals as goal

pub returns-in_default-clause-scans : goal.returns-in_default-clause-scans
returns-in_default-clause-scans g c =
    let after = rw c.deref.ensures.value at c.in-Ok.ensures.done in (
      watched_row c.args.run.program.now c.args.watched.now c.scan.new.state,
      record { later = search rules; after = after; told = λ i. watched_row c.args.run.program.now c.args.watched.now (after i) },
      c.in_default.ensures.wrote,
    )
