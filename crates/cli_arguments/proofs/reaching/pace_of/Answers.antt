use Rattle.std.proofs.lemmas.Result.{err_from_is_err_and}
use Rattle.clap.specs.Words.{found_of, rows_of}
use Rattle.cli_arguments.proofs.Faults.{no_pace_of_every, no_pace_of_gap, no_pace_of_scans, usage_weaker}
use Rattle.cli_arguments.proofs.reaching.pace_of.Goals as goal

pub returns-in_err-every-clause-err : goal.returns-in_err-every-clause-err
returns-in_err-every-clause-err c =
    let none = no_pace_of_every (rows_of (found_of c.args.found.now)) in
    let fault = err_from_is_err_and c.from_residual.result c.from_residual.ensures.1 in
    rw (fault.1, fault.2) (usage_weaker _ none c.in_err-every.ensures.err)

pub returns-in_err-scans-clause-err : goal.returns-in_err-scans-clause-err
returns-in_err-scans-clause-err c =
    let none = no_pace_of_scans (rows_of (found_of c.args.found.now)) in
    let fault = err_from_is_err_and c.from_residual-in_err-scans.result c.from_residual-in_err-scans.ensures.1 in
    rw (fault.1, fault.2) (usage_weaker _ none c.in_err-scans.ensures.err)

pub returns-in_err-gap-clause-err : goal.returns-in_err-gap-clause-err
returns-in_err-gap-clause-err c =
    let none = no_pace_of_gap (rows_of (found_of c.args.found.now)) in
    let fault = err_from_is_err_and c.from_residual-in_err-gap.result c.from_residual-in_err-gap.ensures.1 in
    rw (fault.1, fault.2) (usage_weaker _ none c.in_err-gap.ensures.err)
