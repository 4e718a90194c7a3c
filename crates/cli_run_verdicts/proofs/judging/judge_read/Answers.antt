use Rattle.std.proofs.Common.{option_map, subst}
use Rattle.std.specs.Prelude.{IfErr, IfOk}
use Rattle.io_text.specs.Log.{PutsAll}
use Rattle.cli_inputs.specs.Reports.{logs}
use Rattle.cli_inputs.specs.Setting.{given_by}
use Rattle.cli_questions.specs.Ending.{Ends}
use Rattle.cli_verdicts.specs.Together.{assumption_read}
use Rattle.cli_run_verdicts.specs.Assuming.{RunsAssumption}
use Rattle.cli_run_verdicts.specs.Ending.{FailsToFindRuns, FindsKeepingAssuming}
use Rattle.cli_run_verdicts.proofs.Ends.{assumed_refused, ends_asked, fails_asked}
use Rattle.cli_run_verdicts.proofs.judging.judge_read.Goals as goal

pub returns-in-Ok-clause-done : goal.returns-in-Ok-clause-done
returns-in-Ok-clause-done g c =
    let old = given_by c.args.texts.now.old in
    let new = given_by c.args.texts.now.new in
    let p = c.args.programs.now.old in
    let q = c.args.programs.now.new in
    ends_asked old new c.args.request.now p q c.requires.old c.requires.new
    c.nothing_assumed.ensures (option_map assumption_read c.in-Ok.read) (rw c.as_slice-expressions.ensures.value at c.in-Ok.ensures.read) _ _ _ _ c.judge_programs-kept.result
    (subst (λ (a : RunsAssumption). IfOk c.judge_programs-kept.result (λ kept. Ends (FindsKeepingAssuming a p q kept.matching kept.found) c.args.request.now.quiet
    (g.O.Sink.log c.args.out.now) (g.O.Sink.log c.judge_programs-kept.new.out) (PutsAll (g.E.Sink.log c.args.err.now) (g.E.Sink.log c.judge_programs-kept.new.err))))
    c.assuming_by-assuming.ensures c.judge_programs-kept.ensures.done)

pub returns-in-Ok-clause-failed : goal.returns-in-Ok-clause-failed
returns-in-Ok-clause-failed g c = λ save.
    let old = given_by c.args.texts.now.old in
    let new = given_by c.args.texts.now.new in
    let p = c.args.programs.now.old in
    let q = c.args.programs.now.new in
    let before = logs (g.O.Sink.log c.args.out.now) save (g.E.Sink.log c.args.err.now) in
    let after = logs (g.O.Sink.log c.judge_programs-kept.new.out) save (g.E.Sink.log c.judge_programs-kept.new.err) in
    fails_asked old new c.args.request.now p q c.requires.old c.requires.new
    c.nothing_assumed.ensures (option_map assumption_read c.in-Ok.read) (rw c.as_slice-expressions.ensures.value at c.in-Ok.ensures.read) before after c.judge_programs-kept.result
    (subst (λ (a : RunsAssumption). IfErr c.judge_programs-kept.result (λ status. FailsToFindRuns a old new c.args.request.now p q before after))
    c.assuming_by-assuming.ensures (c.judge_programs-kept.ensures.failed save))

pub returns-in-Err-clause-failed : goal.returns-in-Err-clause-failed
returns-in-Err-clause-failed g c = λ save.
    assumed_refused (given_by c.args.texts.now.old) (given_by c.args.texts.now.new) c.args.request.now c.args.programs.now.old c.args.programs.now.new
    c.requires.old c.requires.new c.in-Err.fault (g.O.Sink.log c.args.out.now) save _ _
    (rw c.as_slice-expressions.ensures.value at c.in-Err.ensures.fault) c.report.ensures.line
