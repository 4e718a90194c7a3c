use Rattle.std.proofs.Common.{arith, inl, subst}
use Rattle.io_text.specs.Log.{WriteLog}
use Rattle.cli_inputs.specs.Reports.{logs}
use Rattle.cli_inputs.specs.Setting.{given_by}
use Rattle.cli_verdicts.specs.Ending.{FailsToJudge}
use Rattle.cli_verdicts.proofs.Faults.{text_refused}
use Rattle.cli_verdicts.proofs.judging.judge.Goals as goal

pub returns-in-Ok-clause-failed : goal.returns-in-Ok-clause-failed
returns-in-Ok-clause-failed g c = λ save one.
    subst (λ (x : WriteLog). FailsToJudge (given_by c.args.texts.now.old) (given_by c.args.texts.now.new) c.args.request.now
    (logs (g.O.Sink.log c.args.out.now) save x) (logs (g.O.Sink.log c.judge_read-status.new.out) save (g.E.Sink.log c.judge_read-status.new.err)))
    c.in-Ok.ensures.unsaid (c.judge_read-status.ensures.failed save one)

pub returns-in-Err-clause-done : goal.returns-in-Err-clause-done
returns-in-Err-clause-done g c = λ zero. absurd (omega (arith, zero, c.in-Err.ensures.status))

pub returns-in-Err-clause-failed : goal.returns-in-Err-clause-failed
returns-in-Err-clause-failed g c = λ save one.
    inl (text_refused (given_by c.args.texts.now.old) (given_by c.args.texts.now.new) c.args.request.now _ _ (c.in-Err.ensures.refused (g.O.Sink.log c.args.out.now) save))
