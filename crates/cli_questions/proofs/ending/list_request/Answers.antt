use Rattle.std.proofs.Common.{inl, refl}
use Rattle.cli_inputs.specs.Setting.{given_by}
use Rattle.cli_questions.specs.Query.{question_of}
use Rattle.cli_questions.specs.Ending.{IsAsked, names_of}
use Rattle.cli_questions.proofs.Endings.{before_asking, ends_asked, failed_asked}
use Rattle.cli_questions.proofs.ending.list_request.Goals as goal

pub returns-in-Err-clause-failed : goal.returns-in-Err-clause-failed
returns-in-Err-clause-failed g c = λ save status.
    let r = c.args.request.now in
    inl (record {
      reason = c.in-Err.fault;
      has = before_asking (given_by c.args.texts.now) (names_of r) (IsAsked (given_by c.args.texts.now) r) (g.F.ListForm.refuses c.args.form.now) c.in-Err.fault c.in-Err.ensures.fault;
      unwritten = refl {a = g.O.Sink.log c.args.out.now};
      unsaved = refl {a = save};
      reported = c.report.ensures.line;
    })

pub returns-in-Ok-clause-done : goal.returns-in-Ok-clause-done
returns-in-Ok-clause-done g c = λ status.
    let r = c.args.request.now in
    ends_asked (IsAsked (given_by c.args.texts.now) r) (g.F.ListForm.is_list c.args.form.now) (question_of c.in-Ok.asked) c.in-Ok.ensures.asked r.quiet _ _ _ (c.list_asked.ensures.done status)

pub returns-in-Ok-clause-failed : goal.returns-in-Ok-clause-failed
returns-in-Ok-clause-failed g c = λ save status.
    let r = c.args.request.now in
    failed_asked (IsAsked (given_by c.args.texts.now) r) (g.F.ListForm.is_list c.args.form.now) (question_of c.in-Ok.asked) c.in-Ok.ensures.asked r.quiet (given_by c.args.texts.now) (names_of r)
    (g.F.ListForm.refuses c.args.form.now) _ _ (c.list_asked.ensures.failed save status)
