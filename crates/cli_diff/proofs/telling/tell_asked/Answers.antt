use Rattle.std.proofs.Common.{ap, inl, inr, refl}
use Rattle.cli_inputs.proofs.Ends.{all_same, prefix_same}
use Rattle.cli_inputs.specs.Setting.{given_by}
use Rattle.cli_questions.specs.Ending.{counts_line, unless_quiet}
use Rattle.cli_questions.specs.Query.{question_of}
use Rattle.cli_questions.specs.declared.counting.ListCounts.{ListCounts}
use Rattle.cli_diff.specs.Assumed.{assumption}
use Rattle.cli_diff.proofs.Forms.{rows_are, rows_counted}
use Rattle.cli_diff.proofs.TellingEnds.{broke_off, told_refusal}
use Rattle.cli_diff.proofs.telling.tell_asked.Goals as goal

pub returns-in-Err-clause-failed : goal.returns-in-Err-clause-failed
returns-in-Err-clause-failed g c = λ save status.
    let b = c.args.rows.bounds in
    let e = c.in-Err.fault in
    inl (record {
      side = e.side;
      reason = e.fault;
      has = told_refusal b.after b.upto (question_of c.args.asked.now.of_old) (question_of c.args.asked.now.of_new) e.side e.fault c.in-Err.ensures.refused;
      unwritten = refl {a = g.O.Sink.log c.args.out.now};
      unsaved = refl {a = save};
      reported = c.report.ensures.line;
    })

pub returns-in-Err-written-clause-failed : goal.returns-in-Err-written-clause-failed
returns-in-Err-written-clause-failed g c = λ save status.
    let list = c.args.rows in
    let b = list.bounds in
    let made = c.in-Ok.ensures in
    inr (
      made.old_accepted,
      made.new_accepted,
      broke_off (assumption list.assumed) list.request.now b.after b.upto (question_of c.args.asked.now.of_old) (question_of c.args.asked.now.of_new) c.in-Ok.differences made.old made.rest
          (given_by c.args.texts.now.old) c.in-Err-written.fault save _ _ _ _ _ c.in-Err-written.ensures.told c.end_at.ensures.rows c.end_at.ensures.lines,
    )

pub returns-in_default-clause-failed : goal.returns-in_default-clause-failed
returns-in_default-clause-failed g c = λ save status.
    let list = c.args.rows in
    let r = list.request.now in
    let a = assumption list.assumed in
    let b = list.bounds in
    let q = question_of c.args.asked.now.of_old in
    let s = question_of c.args.asked.now.of_new in
    let made = c.in-Ok.ensures in
    let w = c.in-Ok-written in
    let counted = rows_counted a r.limit b.after b.upto q s c.in-Ok.differences made.rest _ w.rows c.rows_by.ensures w.ensures.rows in
    inr (
      made.old_accepted,
      made.new_accepted,
      inr (inr (
        g.E.Sink.log c.write_difference_progress-written.new.err,
        (all_same _ _ _ _ (rows_are a r.limit b.after b.upto q s c.in-Ok.differences made.rest made.old) w.ensures.told.0, w.ensures.told.1),
        prefix_same _ _ _ _ (ap (λ (n : ListCounts). unless_quiet r.quiet (counts_line n)) counted) c.in_default.ensures,
      )),
    )

pub returns-clause-done : goal.returns-clause-done
returns-clause-done g c = λ save status.
    let list = c.args.rows in
    let r = list.request.now in
    let a = assumption list.assumed in
    let b = list.bounds in
    let q = question_of c.args.asked.now.of_old in
    let s = question_of c.args.asked.now.of_new in
    let made = c.in-Ok.ensures in
    let w = c.in-Ok-written in
    let counted = rows_counted a r.limit b.after b.upto q s c.in-Ok.differences made.rest _ w.rows c.rows_by.ensures w.ensures.rows in (
      made.old_accepted,
      made.new_accepted,
      (
        g.E.Sink.log c.write_difference_progress-written.new.err,
        (all_same _ _ _ _ (rows_are a r.limit b.after b.upto q s c.in-Ok.differences made.rest made.old) w.ensures.told.0, w.ensures.told.1),
        all_same _ _ _ _ (ap (λ (n : ListCounts). unless_quiet r.quiet (counts_line n)) counted) c.in-Ok-put_counts.ensures,
      ),
    )
