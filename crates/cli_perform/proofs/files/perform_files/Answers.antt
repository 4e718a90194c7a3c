use Rattle.std.proofs.Common.{inl, inr, refl}
use Rattle.cli_inputs.specs.Setting.{given_by}
use Rattle.cli_perform.proofs.files.perform_files.Goals as goal

pub returns-in-Ok-clause-done : goal.returns-in-Ok-clause-done
returns-in-Ok-clause-done g c = λ status.
    let t = c.in-Ok.ensures in (given_by c.in-Ok.texts, t.why, t.aliases, t.read, c.perform_advised-status.ensures.done status)

pub returns-in-Ok-clause-failed : goal.returns-in-Ok-clause-failed
returns-in-Ok-clause-failed g c = λ status.
    let t = c.in-Ok.ensures in inr (given_by c.in-Ok.texts, t.why, t.aliases, t.read, c.perform_advised-status.ensures.failed status)

pub returns-in-Err-clause-failed : goal.returns-in-Err-clause-failed
returns-in-Err-clause-failed g c = λ status.
    inl (record {
      reason = c.in-Err.fault;
      has = c.in-Err.ensures.fault;
      unwritten = refl {a = g.O.Sink.log c.args.out.now};
      unsaved = refl {a = g.S.Sink.log c.args.save.now};
      reported = c.report_unread.ensures.line;
    })
