use Rattle.std.proofs.Common.{Some, None, inl, refl}
use Rattle.cli_inputs.specs.Setting.{given_by}
use Rattle.cli_lists.specs.Lists.{GroupedBy, IsDecided}
use Rattle.cli_questions.specs.Query.{question_of}
use Rattle.cli_lists.proofs.Deciding.{relevant_failed}
use Rattle.cli_questions.proofs.Endings.{ends_asked}
use Rattle.cli_lists.proofs.relevant.list_relevant.Goals as goal

pub returns-in-Err-clause-failed : goal.returns-in-Err-clause-failed
returns-in-Err-clause-failed g c = λ save status. inl (record {
  reason = c.in-Err.fault;
  has = inl c.in-Err.ensures.fault;
  unwritten = refl {a = g.O.Sink.log c.args.out.now};
  unsaved = refl {a = save};
  reported = c.report.ensures.line;
})

pub returns-in-Some-clause-done : goal.returns-in-Some-clause-done
returns-in-Some-clause-done g c = λ status.
    let r = c.args.request.now in
    rw c.in-Some.is (ends_asked (IsDecided (given_by c.args.texts.now) r) (GroupedBy (Some c.in-Some.how) r.limit c.args.after) (question_of c.in-Ok.asked) c.in-Ok.ensures.decided r.quiet _ _ _
    (c.list_asked.ensures.done status))

pub returns-in-Some-clause-failed : goal.returns-in-Some-clause-failed
returns-in-Some-clause-failed g c = λ save status.
    rw c.in-Some.is (relevant_failed (given_by c.args.texts.now) c.args.request.now c.args.after (Some c.in-Some.how) (question_of c.in-Ok.asked) _ _ c.in-Ok.ensures.decided
    (c.list_asked.ensures.failed save status))

pub returns-clause-done : goal.returns-clause-done
returns-clause-done g c = λ status.
    let r = c.args.request.now in
    rw c.in-None.is (ends_asked (IsDecided (given_by c.args.texts.now) r) (GroupedBy None r.limit c.args.after) (question_of c.in-Ok.asked) c.in-Ok.ensures.decided r.quiet _ _ _
    (c.list_asked-in-None.ensures.done status))

pub returns-clause-failed : goal.returns-clause-failed
returns-clause-failed g c = λ save status.
    rw c.in-None.is (relevant_failed (given_by c.args.texts.now) c.args.request.now c.args.after None (question_of c.in-Ok.asked) _ _ c.in-Ok.ensures.decided
    (c.list_asked-in-None.ensures.failed save status))
