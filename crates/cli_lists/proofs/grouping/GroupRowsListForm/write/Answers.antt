use Rattle.std.proofs.Common.{ap, inl, inr, refl}
use Rattle.cli_questions.specs.Query.{question_of}
use Rattle.cli_questions.specs.declared.counting.ListCounts.TheVariants as counts
use Rattle.cli_lists.specs.Lists.{groups_text, ordered}
use Rattle.cli_lists.proofs.grouping.GroupRowsListForm.write.Goals as goal

pub returns-in-Ok : goal.returns-in-Ok
returns-in-Ok g c =
    let f = c.args.self.now in
    let h = c.in-Ok.ensures in
    (groups_text f.how.form f.limit (ordered f.how.order (question_of c.args.asked.now)), (h.0, refl, ap counts.Groups h.1), h.2)

pub returns-in-Err : goal.returns-in-Err
returns-in-Err g c =
    let f = c.args.self.now in
    elim c.in-Err.ensures [
      | inl h ↦ inl h
      | inr h ↦ inr (h.0, (groups_text f.how.form f.limit (ordered f.how.order (question_of c.args.asked.now)), (h.1, refl, tt), h.2))
    ]
