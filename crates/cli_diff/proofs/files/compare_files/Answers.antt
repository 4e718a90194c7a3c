use Rattle.std.proofs.Common.{inl, inr, refl}
use Rattle.cli_inputs.specs.Reports.{unread}
use Rattle.cli_inputs.specs.Setting.{given_by}
use Rattle.cli_diff.proofs.Endings.{same_texts}
use Rattle.cli_diff.proofs.files.compare_files.Goals as goal

pub returns-in-Ok-clause-failed : goal.returns-in-Ok-clause-failed
returns-in-Ok-clause-failed g c = λ save status.
    let t = c.in-Ok.ensures in
    inr (
      given_by c.in-Ok.texts.old,
      given_by c.in-Ok.texts.new,
      (t.why.0, t.aliases.0),
      (t.why.1, t.aliases.1),
      t.read,
      c.compare-status.ensures.failed save status,
    )

pub returns-in-Err-clause-failed : goal.returns-in-Err-clause-failed
returns-in-Err-clause-failed g c = λ save status.
    let e = c.in-Err.fault in
    inl (record {
      side = e.side;
      reason = e.fault;
      has = c.in-Err.ensures.fault;
      unwritten = refl {a = g.O.Sink.log c.args.out.now};
      unsaved = refl {a = save};
      reported = same_texts e.side (unread c.args.request.now.why) _ _ e.fault c.report_unread_by.ensures.line;
    })
