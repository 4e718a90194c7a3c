use Rattle.std.proofs.Common.{inl, subst, true}
use Rattle.io_text.specs.Log.{PutsAll, WriteLog}
use Rattle.cli_inputs.specs.Reports.{logs}
use Rattle.cli_inputs.specs.Setting.{given_by}
use Rattle.cli_questions.specs.Ending.{Ends}
use Rattle.cli_verdicts.specs.Ending.{FailsToJudge, FindsAsked}
use Rattle.cli_verdicts.proofs.Ends.{ends_judged}
use Rattle.cli_verdicts.proofs.Faults.{text_refused}
use Rattle.cli_witnesses.proofs.Kept.{keeps_witnesses, witnesses_fit}
use Rattle.cli_witnesses.proofs.judged.judge_keeping.Goals as goal

pub returns-in-Err-clause-failed : goal.returns-in-Err-clause-failed
returns-in-Err-clause-failed g c = λ save.
    inl (text_refused (given_by c.args.texts.now.old) (given_by c.args.texts.now.new) c.args.request.now _ _ (c.in-Err.ensures.refused (g.O.Sink.log c.args.out.now) save))

pub returns-in-Ok-judge_programs-clause-done : goal.returns-in-Ok-judge_programs-clause-done
returns-in-Ok-judge_programs-clause-done g c =
    let p = c.in-Ok.programs.old in
    let q = c.in-Ok.programs.new in
    let kept = c.in-Ok-judge_programs.kept in
    ends_judged (given_by c.args.texts.now.old) (given_by c.args.texts.now.new) c.args.request.now p q c.in-Ok.ensures.old c.in-Ok.ensures.new
    true kept.matching kept.witnesses.items _ _ _
    (subst (λ (x : WriteLog). Ends (FindsAsked (given_by c.args.texts.now.old) (given_by c.args.texts.now.new) c.args.request.now true p q kept.matching kept.witnesses.items) c.args.request.now.quiet
    (g.O.Sink.log c.args.out.now) (g.O.Sink.log c.judge_programs.new.out) (PutsAll x (g.E.Sink.log c.judge_programs.new.err)))
    c.in-Ok.ensures.unsaid c.in-Ok-judge_programs.ensures.done)

pub returns-in-Ok-judge_programs-clause-kept : goal.returns-in-Ok-judge_programs-clause-kept
returns-in-Ok-judge_programs-clause-kept g c =
    let p = c.in-Ok.programs.old in
    let q = c.in-Ok.programs.new in
    let kept = c.in-Ok-judge_programs.kept in
    keeps_witnesses (given_by c.args.texts.now.old) (given_by c.args.texts.now.new) c.args.request.now
    (record { old = p; new = q; matching = kept.matching; witnesses = kept.witnesses.items; why = c.args.texts.now.old.why }) _ _ _ c.in-Ok.ensures.old c.in-Ok.ensures.new
    (subst (λ (x : WriteLog). Ends (FindsAsked (given_by c.args.texts.now.old) (given_by c.args.texts.now.new) c.args.request.now true p q kept.matching kept.witnesses.items) c.args.request.now.quiet
    (g.O.Sink.log c.args.out.now) (g.O.Sink.log c.judge_programs.new.out) (PutsAll x (g.E.Sink.log c.judge_programs.new.err)))
    c.in-Ok.ensures.unsaid c.in-Ok-judge_programs.ensures.done)

pub returns-in-Err-judge_programs-clause-failed : goal.returns-in-Err-judge_programs-clause-failed
returns-in-Err-judge_programs-clause-failed g c = λ save.
    subst (λ (x : WriteLog). FailsToJudge (given_by c.args.texts.now.old) (given_by c.args.texts.now.new) c.args.request.now
    (logs (g.O.Sink.log c.args.out.now) save x) (logs (g.O.Sink.log c.judge_programs.new.out) save (g.E.Sink.log c.judge_programs.new.err)))
    c.in-Ok.ensures.unsaid (c.in-Err-judge_programs.ensures.failed save)

pub invariant_of-result : goal.invariant_of-result
invariant_of-result g c =
    let kept = c.in-Ok-judge_programs.kept in
    witnesses_fit (given_by c.args.texts.now.old) (given_by c.args.texts.now.new) c.args.request.now c.in-Ok.programs.old c.in-Ok.programs.new kept.matching
    kept.witnesses.items _ _ _ c.in-Ok-judge_programs.ensures.done
