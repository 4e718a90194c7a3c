use Rattle.std.proofs.Common.{inl, subst}
use Rattle.std.specs.Prelude.{IfErr}
use Rattle.io_text.specs.Log.{WriteLog}
use Rattle.cli_inputs.specs.Reports.{logs}
use Rattle.cli_inputs.specs.Setting.{given_by}
use Rattle.cli_verdicts.specs.Ending.{FailsToJudge}
use Rattle.cli_verdicts.proofs.judging.judge_programs.Goals as goal

pub returns-clause-failed : goal.returns-clause-failed
returns-clause-failed g c = λ save.
    let judged = c.judge_assumed-judged in
    subst (λ (x : WriteLog). IfErr judged.result (λ status. FailsToJudge (given_by c.args.texts.now.old) (given_by c.args.texts.now.new) c.args.request.now
    (logs (g.O.Sink.log c.args.out.now) save x) (logs (g.O.Sink.log judged.new.out) save (g.E.Sink.log judged.new.err))))
    c.in-Ok.ensures.unsaid (judged.ensures.failed save)

pub returns-in-Err-clause-failed : goal.returns-in-Err-clause-failed
returns-in-Err-clause-failed g c = λ save. inl (c.in-Err.ensures.refused (g.O.Sink.log c.args.out.now) save)
