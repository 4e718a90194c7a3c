use Rattle.std.proofs.Common.{inl, inr, refl}
use Rattle.text_causes.specs.CauseText.{limited}
use Rattle.text_differences.specs.DifferenceText.{difference_text, part}
use Rattle.cli_questions.specs.Query.{question_of}
use Rattle.cli_diff.specs.Assumed.{assumption}
use Rattle.cli_diff.proofs.Forms.{rows_are, rows_counted}
use Rattle.cli_diff.proofs.listing.write_rows.Goals as goal

pub returns-in-Err : goal.returns-in-Err
returns-in-Err g c = inl (c.in-Err.ensures.refused, refl)

pub returns-in-Ok-written : goal.returns-in-Ok-written
returns-in-Ok-written g c =
    let b = c.args.bounds in
    let old = question_of c.args.asked.now.of_old in
    let new = question_of c.args.asked.now.of_new in
    let d = c.in-Ok.differences in
    let made = c.in-Ok.ensures in
    let w = c.in-Ok-written in (
      difference_text d.asked_old.program d.asked_old.listed (limited c.args.limit (part b.upto d.rest)),
      (
        made.old_accepted,
        made.new_accepted,
        (
          rows_are (assumption c.args.assumed) c.args.limit b.after b.upto old new d made.rest made.old,
          rows_counted (assumption c.args.assumed) c.args.limit b.after b.upto old new d made.rest _ w.rows c.rows_by.ensures w.ensures.rows,
        ),
      ),
      w.ensures.bytes,
    )

pub returns-in-Err-written : goal.returns-in-Err-written
returns-in-Err-written g c =
    let b = c.args.bounds in
    let old = question_of c.args.asked.now.of_old in
    let new = question_of c.args.asked.now.of_new in
    let d = c.in-Ok.differences in
    let made = c.in-Ok.ensures in
    inr (
      c.unwritten.ensures,
      (
        difference_text d.asked_old.program d.asked_old.listed (limited c.args.limit (part b.upto d.rest)),
        (made.old_accepted, made.new_accepted, (rows_are (assumption c.args.assumed) c.args.limit b.after b.upto old new d made.rest made.old, tt)),
        c.in-Err-written.ensures.bytes,
      ),
    )
