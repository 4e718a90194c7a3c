use Rattle.std.proofs.Common.{inl, inr, refl}
use Rattle.cli_inputs.specs.Reports.{logs}
use Rattle.cli_inputs.specs.Setting.{given_by}
use Rattle.cli_questions.specs.Query.{question_of}
use Rattle.cli_diff.specs.Assumed.{assumption}
use Rattle.cli_diff.proofs.AssumedEnds.{breaks_few, counts_few, impossible}
use Rattle.cli_diff.proofs.Endings.{refuses_as}
use Rattle.cli_diff.proofs.comparing.compare_counted.Goals as goal

pub returns-in-Ok-clause-done : goal.returns-in-Ok-clause-done
returns-in-Ok-clause-done g c = λ save status.
    let r = c.args.request.now in
    let before = logs (g.O.Sink.log c.args.out.now) save (g.E.Sink.log c.args.err.now) in
    let after = logs (g.O.Sink.log c.compare_asked.new.out) save (g.E.Sink.log c.compare_asked.new.err) in
    let h = c.compare_asked.ensures.done save status in
    (c.in-Ok.ensures.possible (counts_few (assumption c.args.assumed) r (question_of c.args.asked.now.of_old) (question_of c.args.asked.now.of_new) before after r.form h), h)

pub returns-in-Ok-clause-failed : goal.returns-in-Ok-clause-failed
returns-in-Ok-clause-failed g c = λ save status.
    let r = c.args.request.now in
    let before = logs (g.O.Sink.log c.args.out.now) save (g.E.Sink.log c.args.err.now) in
    let after = logs (g.O.Sink.log c.compare_asked.new.out) save (g.E.Sink.log c.compare_asked.new.err) in
    let old = given_by c.args.texts.now.old in
    elim (c.compare_asked.ensures.failed save status) [
      | inl h ↦ inl (refuses_as old (given_by c.args.texts.now.new) _ _ before after (λ side f has. inl has) h)
      | inr h ↦ inr (c.in-Ok.ensures.possible (breaks_few (assumption c.args.assumed) r (question_of c.args.asked.now.of_old) (question_of c.args.asked.now.of_new) before after r.form old h), h)
    ]

pub returns-in-Err-clause-failed : goal.returns-in-Err-clause-failed
returns-in-Err-clause-failed g c = λ save status.
    let e = c.in-Err.fault in
    inl (record {
      side = e.side;
      reason = e.fault;
      has = impossible c.args.request.now.form (assumption c.args.assumed) (question_of c.args.asked.now.of_old) (question_of c.args.asked.now.of_new) e c.in-Err.ensures.refused;
      unwritten = refl {a = g.O.Sink.log c.args.out.now};
      unsaved = refl {a = save};
      reported = c.report.ensures.line;
    })
