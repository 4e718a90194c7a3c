use Rattle.std.proofs.Common.{inl, subst}
use Rattle.io_text.specs.Log.{PutsAll, WriteLog}
use Rattle.cli_inputs.specs.Reports.{logs}
use Rattle.cli_inputs.specs.Setting.{given_by}
use Rattle.cli_questions.specs.Ending.{Ends}
use Rattle.cli_run_verdicts.specs.Ending.{FailsToJudgeRuns, FindsKeepingAsked}
use Rattle.cli_run_verdicts.proofs.Ends.{counts_runs, keeps_runs, text_refused}
use Rattle.cli_run_verdicts.proofs.judged.judge_runs.Goals as goal

pub returns-in-Err-clause-failed : goal.returns-in-Err-clause-failed
returns-in-Err-clause-failed g c = λ save.
    inl (text_refused (given_by c.args.texts.now.old) (given_by c.args.texts.now.new) c.args.request.now _ _ (c.in-Err.ensures.refused (g.O.Sink.log c.args.out.now) save))

pub returns-in-Ok-judge_read-clause-done : goal.returns-in-Ok-judge_read-clause-done
returns-in-Ok-judge_read-clause-done g c =
    let p = c.in-Ok.programs.old in
    let q = c.in-Ok.programs.new in
    let kept = c.in-Ok-judge_read.kept in
    counts_runs (given_by c.args.texts.now.old) (given_by c.args.texts.now.new) c.args.request.now
    (record { old = p; new = q; matching = kept.matching; found = kept.found; why = c.args.texts.now.old.why }) _ _ _ c.in-Ok.ensures.old c.in-Ok.ensures.new
    (subst (λ (x : WriteLog). Ends (FindsKeepingAsked (given_by c.args.texts.now.old) (given_by c.args.texts.now.new) c.args.request.now p q kept.matching kept.found) c.args.request.now.quiet
    (g.O.Sink.log c.args.out.now) (g.O.Sink.log c.judge_read.new.out) (PutsAll x (g.E.Sink.log c.judge_read.new.err)))
    c.in-Ok.ensures.unsaid c.in-Ok-judge_read.ensures.done)

pub returns-in-Ok-judge_read-clause-kept : goal.returns-in-Ok-judge_read-clause-kept
returns-in-Ok-judge_read-clause-kept g c =
    let p = c.in-Ok.programs.old in
    let q = c.in-Ok.programs.new in
    let kept = c.in-Ok-judge_read.kept in
    keeps_runs (given_by c.args.texts.now.old) (given_by c.args.texts.now.new) c.args.request.now
    (record { old = p; new = q; matching = kept.matching; found = kept.found; why = c.args.texts.now.old.why }) _ _ _ c.in-Ok.ensures.old c.in-Ok.ensures.new
    (subst (λ (x : WriteLog). Ends (FindsKeepingAsked (given_by c.args.texts.now.old) (given_by c.args.texts.now.new) c.args.request.now p q kept.matching kept.found) c.args.request.now.quiet
    (g.O.Sink.log c.args.out.now) (g.O.Sink.log c.judge_read.new.out) (PutsAll x (g.E.Sink.log c.judge_read.new.err)))
    c.in-Ok.ensures.unsaid c.in-Ok-judge_read.ensures.done)

pub returns-in-Err-judge_read-clause-failed : goal.returns-in-Err-judge_read-clause-failed
returns-in-Err-judge_read-clause-failed g c = λ save.
    subst (λ (x : WriteLog). FailsToJudgeRuns (given_by c.args.texts.now.old) (given_by c.args.texts.now.new) c.args.request.now
    (logs (g.O.Sink.log c.args.out.now) save x) (logs (g.O.Sink.log c.judge_read.new.out) save (g.E.Sink.log c.judge_read.new.err)))
    c.in-Ok.ensures.unsaid (c.in-Err-judge_read.ensures.failed save)
