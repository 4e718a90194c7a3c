use Rattle.std.proofs.Common.{arith}
use Rattle.cli_inputs.specs.Setting.{given_by}
use Rattle.cli_verdicts.proofs.Ends.{ends_judged}
use Rattle.cli_verdicts.proofs.judging.judge_read.Goals as goal

pub returns-in-Ok-clause-done : goal.returns-in-Ok-clause-done
returns-in-Ok-clause-done g c = λ zero.
    ends_judged (given_by c.args.texts.now.old) (given_by c.args.texts.now.new) c.args.request.now c.args.programs.now.old c.args.programs.now.new
    c.requires.old c.requires.new _ _ _ _ _ _ c.in-Ok.ensures.done

pub returns-in-Err-clause-done : goal.returns-in-Err-clause-done
returns-in-Err-clause-done g c = λ zero. absurd (omega (arith, zero, c.in-Err.ensures.status))

pub returns-in-Err-clause-failed : goal.returns-in-Err-clause-failed
returns-in-Err-clause-failed g c = λ save one. c.in-Err.ensures.failed save
