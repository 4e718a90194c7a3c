use Rattle.cli_inputs.specs.Reports.{logs}
use Rattle.cli_perform.proofs.advised.perform_advised.Goals as goal

pub returns-then-status-eq1-clause-failed : goal.returns-then-status-eq1-clause-failed
returns-then-status-eq1-clause-failed g c = λ status.
    let new = c.perform-status.new in (
      logs (g.O.Sink.log new.out) (g.S.Sink.log new.save) (g.E.Sink.log new.err),
      c.perform-status.ensures.failed status,
      c.advise_if_asked.ensures (g.O.Sink.log new.out) (g.S.Sink.log new.save),
    )
