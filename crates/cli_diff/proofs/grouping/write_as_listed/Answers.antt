use Rattle.std.proofs.Common.{inr}
use Rattle.text_differences.specs.GroupText.{difference_group_text, new_rows_of, old_rows_of}
use Rattle.cli_questions.specs.Query.{question_of}
use Rattle.cli_diff.specs.Assumed.{assumption}
use Rattle.cli_diff.proofs.Forms.{groups_are, groups_counted, no_cause}
use Rattle.cli_diff.proofs.grouping.write_as_listed.Goals as goal

pub returns-in-Ok-written : goal.returns-in-Ok-written
returns-in-Ok-written g c =
    let a = assumption c.args.assumed in
    let limit = c.args.limit in
    let q = question_of c.args.of_old.now in
    let r = question_of c.args.of_new.now in
    let old = c.in-Ok.groups in
    let new = c.in-Ok-groups_of.groups in
    let made = c.in-Ok.ensures in
    let w = c.in-Ok-written in (
      difference_group_text c.form_of-form.result old.asked_old.program old.asked_old.listed (old_rows_of limit old) (new_rows_of limit old new),
      (
        no_cause _ made.old_accepted,
        no_cause _ made.new_accepted,
        (
          groups_are a limit q r old new made.rows c.in-Ok-groups_of.ensures.rows c.form_of-form.result c.args.shape c.form_of-form.ensures made.old,
          groups_counted a limit q r old new made.rows c.in-Ok-groups_of.ensures.rows _ w.summary.rows w.summary.differences c.differences_by.ensures w.ensures.rows w.ensures.differences,
        ),
      ),
      w.ensures.bytes,
    )

pub returns-in-Err-written : goal.returns-in-Err-written
returns-in-Err-written g c =
    let a = assumption c.args.assumed in
    let limit = c.args.limit in
    let q = question_of c.args.of_old.now in
    let r = question_of c.args.of_new.now in
    let old = c.in-Ok.groups in
    let new = c.in-Ok-groups_of.groups in
    let made = c.in-Ok.ensures in
    inr (
      c.unwritten.ensures,
      (
        difference_group_text c.form_of-form.result old.asked_old.program old.asked_old.listed (old_rows_of limit old) (new_rows_of limit old new),
        (
          no_cause _ made.old_accepted,
          no_cause _ made.new_accepted,
          (groups_are a limit q r old new made.rows c.in-Ok-groups_of.ensures.rows c.form_of-form.result c.args.shape c.form_of-form.ensures made.old, tt),
        ),
        c.in-Err-written.ensures.bytes,
      ),
    )
