use Rattle.cli_inputs.specs.Setting.{given_by}
use Rattle.cli_questions.specs.Query.{question_of}
use Rattle.cli_questions.proofs.Endings.{broken}
use Rattle.cli_questions.proofs.ending.list_asked.Goals as goal

pub returns-in-Err-clause-failed : goal.returns-in-Err-clause-failed
returns-in-Err-clause-failed g c = λ save status.
    let q = question_of c.args.asked.now in
    broken (given_by c.args.texts.now) (g.F.ListForm.is_list c.args.form.now q) (g.F.ListForm.refuses c.args.form.now q) c.args.quiet c.in-Err.fault save _ _ _ _ c.in-Err.ensures c.report.ensures.line
