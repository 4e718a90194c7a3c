use Rattle.std.proofs.Common.{◌∙◌, inl, inr, refl}
use Rattle.std.specs.Prelude.{option_map}
use Rattle.cli_inputs.specs.declared.fault.ToolFault.TheVariants as fault
use Rattle.cli_inputs.specs.Setting.{given_by}
use Rattle.cli_inputs.proofs.Ends.{all_same, prefix_same}
use Rattle.cli_questions.specs.Query.{question_of}
use Rattle.causes_one_scan.specs.Assuming.{assumed_causes_after, assumed_search_of}
use Rattle.causes_one_scan.specs.Cursor.{first_number}
use Rattle.cli_lists.proofs.Forms.{causes_are, summary_is}
use Rattle.cli_lists.proofs.ProgressEnds.{broke_off, told_counts_are}
use Rattle.cli_lists.proofs.progress.tell_asked.Goals as goal

pub returns-in-Err-clause-failed : goal.returns-in-Err-clause-failed
returns-in-Err-clause-failed g c = λ save status. inl (record {
  reason = fault.Cause c.in-Err.fault;
  has = c.in-Err.ensures.refused;
  unwritten = refl {a = g.O.Sink.log c.args.out.now};
  unsaved = refl {a = save};
  reported = c.report.ensures.line;
})

pub returns-in-Err-written-clause-failed : goal.returns-in-Err-written-clause-failed
returns-in-Err-written-clause-failed g c = λ save status.
    let list = c.args.list in
    let assumed = option_map (λ e. e.now) c.args.assumed in
    let made = c.in-Ok.ensures in
    inr (
      made.accepted,
      broke_off assumed list.request.now list.after list.upto (question_of c.args.asked.now) c.in-Ok.causes made.program made.listed made.rest list.expressions (given_by c.args.texts.now)
          c.in-Err-written.fault save _ _ _ _ _ c.in-Err-written.ensures.told c.end_at.ensures.rows c.end_at.ensures.lines,
    )

pub returns-in_default-clause-failed : goal.returns-in_default-clause-failed
returns-in_default-clause-failed g c = λ save status.
    let list = c.args.list in
    let r = list.request.now in
    let q = question_of c.args.asked.now in
    let assumed = option_map (λ e. e.now) c.args.assumed in
    let xs = assumed_causes_after assumed list.after q in
    let made = c.in-Ok.ensures in
    let w = c.in-Ok-written in
    inr (
      made.accepted,
      inr (inr (
        g.E.Sink.log c.write_progress-written.new.err,
        (all_same _ _ _ _ (causes_are r.limit list.upto xs q c.in-Ok.causes made.program made.listed made.rest) w.ensures.told.0, w.ensures.told.1),
        prefix_same _ _ _ _ (told_counts_are assumed r list.after list.upto q c.in-Ok.causes made.program made.listed made.rest list.expressions _ _ c.counts_by.ensures
            (summary_is r.limit list.upto xs q c.in-Ok.causes made.program made.listed made.rest w.summary
            (assumed_search_of assumed q (first_number list.after)) made.search made.looks w.ensures.rows (w.ensures.looks ∙ w.ensures.counted))) c.in_default.ensures,
      )),
    )

pub returns-clause-done : goal.returns-clause-done
returns-clause-done g c = λ save status.
    let list = c.args.list in
    let r = list.request.now in
    let q = question_of c.args.asked.now in
    let assumed = option_map (λ e. e.now) c.args.assumed in
    let xs = assumed_causes_after assumed list.after q in
    let made = c.in-Ok.ensures in
    let w = c.in-Ok-written in (
      made.accepted,
      (
        g.E.Sink.log c.write_progress-written.new.err,
        (all_same _ _ _ _ (causes_are r.limit list.upto xs q c.in-Ok.causes made.program made.listed made.rest) w.ensures.told.0, w.ensures.told.1),
        all_same _ _ _ _ (told_counts_are assumed r list.after list.upto q c.in-Ok.causes made.program made.listed made.rest list.expressions _ _ c.counts_by.ensures
            (summary_is r.limit list.upto xs q c.in-Ok.causes made.program made.listed made.rest w.summary
            (assumed_search_of assumed q (first_number list.after)) made.search made.looks w.ensures.rows (w.ensures.looks ∙ w.ensures.counted))) c.in-Ok-put_counts.ensures,
      ),
    )
