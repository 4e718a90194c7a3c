use Rattle.cli_questions.specs.Query.{question_of}
use Rattle.cli_diff.specs.Assumed.{assumption}
use Rattle.cli_diff.proofs.TellingEnds.{told_list}
use Rattle.cli_diff.proofs.comparing.write_list.Goals as goal

pub returns-in-Progress : goal.returns-in-Progress
returns-in-Progress g c = told_list (assumption c.args.assumed) c.args.form c.args.limit c.in-Progress.after c.in-Progress.upto (question_of c.args.asked.now.of_old) (question_of c.args.asked.now.of_new) _ _ _
    c.in-Progress.is c.write_rows-in-Progress.ensures
