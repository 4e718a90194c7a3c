use Rattle.std.proofs.Common.{inr}
use Rattle.text_causes.specs.CauseText.{limited}
use Rattle.text_held_differences.specs.HeldText.{held_difference_text}
use Rattle.cli_questions.specs.Query.{question_of}
use Rattle.cli_diff.specs.Assumed.{assumption}
use Rattle.cli_diff.proofs.Forms.{held_accepted, held_rows_are, held_rows_counted}
use Rattle.cli_diff.proofs.holding.write_held.Goals as goal

pub returns-in-Ok-written : goal.returns-in-Ok-written
returns-in-Ok-written g c =
    let a = assumption c.args.assumed in
    let old = question_of c.args.asked.now.of_old in
    let new = question_of c.args.asked.now.of_new in
    let of_old = c.program_query-old.ensures in
    let d = c.in-Ok.differences in
    let made = c.in-Ok.ensures in
    let of_new = c.program_query-new.ensures in
    let w = c.in-Ok-written in (
      held_difference_text d.asked_old.program d.asked_old.listed (limited c.args.limit d.rest),
      (
        held_accepted c.args.scans _ old of_old made.accepted.0,
        held_accepted c.args.scans _ new of_new made.accepted.1,
        (held_rows_are a c.args.limit c.args.scans _ _ old new of_old of_new d made.rest made.old, held_rows_counted a c.args.limit c.args.scans _ _ old new of_old of_new d made.rest _ w.rows c.rows_by.ensures w.ensures.rows),
      ),
      w.ensures.bytes,
    )

pub returns-in-Err-written : goal.returns-in-Err-written
returns-in-Err-written g c =
    let a = assumption c.args.assumed in
    let old = question_of c.args.asked.now.of_old in
    let new = question_of c.args.asked.now.of_new in
    let of_old = c.program_query-old.ensures in
    let d = c.in-Ok.differences in
    let made = c.in-Ok.ensures in
    let of_new = c.program_query-new.ensures in
    inr (
      c.unwritten.ensures,
      (
        held_difference_text d.asked_old.program d.asked_old.listed (limited c.args.limit d.rest),
        (held_accepted c.args.scans _ old of_old made.accepted.0, held_accepted c.args.scans _ new of_new made.accepted.1, (held_rows_are a c.args.limit c.args.scans _ _ old new of_old of_new d made.rest made.old, tt)),
        c.in-Err-written.ensures.bytes,
      ),
    )
