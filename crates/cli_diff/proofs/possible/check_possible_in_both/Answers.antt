use Rattle.std.proofs.Common.{Some}
use Rattle.std.proofs.lemmas.Result.{IfErr-weaker}
use Rattle.cli_questions.specs.Query.{question_of}
use Rattle.cli_diff.proofs.InBothPrograms.{impossible_as, never_old}
use Rattle.cli_diff.proofs.possible.check_possible_in_both.Goals as goal

pub returns-in_default-new-clause-refused : goal.returns-in_default-new-clause-refused
returns-in_default-new-clause-refused c =
    rw (c.in-Some.is, c.in_default-new.is) (IfErr-weaker c.check_one-in_default-new.result _ _
    (λ e h. impossible_as _ _ e (never_old (Some c.in-Some.old.now) (question_of c.args.asked.now.of_old) (question_of c.args.asked.now.of_new)) h) c.check_one-in_default-new.ensures.refused)

pub returns-clause-refused : goal.returns-clause-refused
returns-clause-refused c = rw (c.in-Some.is, c.in-Some-new.is) c.check_both.ensures.refused
