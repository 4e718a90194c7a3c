use Rattle.cli_inputs.specs.Setting.{given_by}
use Rattle.cli_questions.specs.Query.{question_of}
use Rattle.cli_diff.specs.Assumed.{assumption}
use Rattle.cli_diff.proofs.Endings.{broken, uncounted}
use Rattle.cli_diff.proofs.comparing.list_asked.Goals as goal

pub returns-in-Err-clause-failed : goal.returns-in-Err-clause-failed
returns-in-Err-clause-failed g c = λ save status.
    broken (given_by c.args.texts.now.old) (given_by c.args.texts.now.new) (assumption c.args.assumed) c.args.request.now (question_of c.args.asked.now.of_old)
    (question_of c.args.asked.now.of_new) c.in-Err.fault save _ _ _ _ c.in-Err.ensures c.report.ensures.line

pub returns-in_default-clause-failed : goal.returns-in_default-clause-failed
returns-in_default-clause-failed g c = λ save status.
    uncounted (given_by c.args.texts.now.old) (given_by c.args.texts.now.new) (assumption c.args.assumed) c.args.request.now (question_of c.args.asked.now.of_old)
    (question_of c.args.asked.now.of_new) c.in-Ok.counts save _ _ _ _ c.in-Ok.ensures c.in_default.ensures
