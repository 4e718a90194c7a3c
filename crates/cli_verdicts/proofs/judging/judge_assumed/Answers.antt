use Rattle.cli_inputs.specs.Setting.{given_by}
use Rattle.cli_verdicts.proofs.Ends.{broken, ends_kept, uncounted_in}
use Rattle.cli_verdicts.proofs.judging.judge_assumed.Goals as goal

pub returns-in-Ok-clause-done : goal.returns-in-Ok-clause-done
returns-in-Ok-clause-done g c =
    let terms = c.args.terms in
    ends_kept (given_by c.args.texts.now.old) (given_by c.args.texts.now.new) c.args.request.now c.args.programs.now.old c.args.programs.now.new terms.assumed c.requires.assumed
    terms.keeps c.looks_of.result c.in-Ok.written _ _ _ _ c.put_written.result c.in-Ok.ensures.done c.put_written.ensures.done

pub returns-in-Ok-clause-failed : goal.returns-in-Ok-clause-failed
returns-in-Ok-clause-failed g c = λ save.
    let terms = c.args.terms in
    uncounted_in (given_by c.args.texts.now.old) (given_by c.args.texts.now.new) c.args.request.now c.args.programs.now.old c.args.programs.now.new terms.assumed c.requires.assumed
    c.requires.old c.requires.new terms.keeps c.looks_of.result c.in-Ok.written save _ _ _ _ c.put_written.result c.in-Ok.ensures.done c.put_written.ensures.failed

pub returns-in-Err-clause-failed : goal.returns-in-Err-clause-failed
returns-in-Err-clause-failed g c = λ save.
    let terms = c.args.terms in
    broken (given_by c.args.texts.now.old) (given_by c.args.texts.now.new) c.args.request.now c.args.programs.now.old c.args.programs.now.new terms.assumed c.requires.assumed
    c.requires.old c.requires.new c.in-Err.fault save _ _ _ _ c.in-Err.ensures.failed c.report.ensures.line
