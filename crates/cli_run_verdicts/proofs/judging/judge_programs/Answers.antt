use Rattle.cli_inputs.specs.Setting.{given_by}
use Rattle.cli_run_verdicts.specs.Assuming.{assumption}
use Rattle.cli_run_verdicts.proofs.Ends.{broken, ends_kept, uncounted_in}
use Rattle.cli_run_verdicts.proofs.judging.judge_programs.Goals as goal

pub returns-in-Ok-clause-done : goal.returns-in-Ok-clause-done
returns-in-Ok-clause-done g c =
    ends_kept (assumption c.args.assuming) c.args.request.now.quiet c.args.programs.now.old c.args.programs.now.new
    c.in-Ok.written _ _ _ _ c.put_written.result c.in-Ok.ensures.done c.put_written.ensures.done

pub returns-in-Ok-clause-failed : goal.returns-in-Ok-clause-failed
returns-in-Ok-clause-failed g c = λ save.
    uncounted_in (assumption c.args.assuming) (given_by c.args.texts.now.old) (given_by c.args.texts.now.new) c.args.request.now c.args.programs.now.old c.args.programs.now.new c.in-Ok.written save _ _ _ _ c.put_written.result c.in-Ok.ensures.done c.put_written.ensures.failed

pub returns-in-Err-clause-failed : goal.returns-in-Err-clause-failed
returns-in-Err-clause-failed g c = λ save.
    broken (assumption c.args.assuming) (given_by c.args.texts.now.old) (given_by c.args.texts.now.new) c.args.request.now c.args.programs.now.old c.args.programs.now.new c.in-Err.fault save _ _ _ _ c.in-Err.ensures.failed c.report.ensures.line
