use Rattle.std.proofs.lemmas.Result.{err_from_is_err_and}
use Rattle.clap.specs.Words.{found_of, rows_of}
use Rattle.cli_arguments.proofs.Faults.{no_lasting_of_scans, no_lasting_of_time, usage_weaker}
use Rattle.cli_arguments.proofs.lasting.lasting_of.Goals as goal

pub returns-in_err-scans-clause-err : goal.returns-in_err-scans-clause-err
returns-in_err-scans-clause-err c =
    let none = no_lasting_of_scans (rows_of (found_of c.args.found.now)) in
    let fault = err_from_is_err_and c.from_residual.result c.from_residual.ensures.1 in
    rw (fault.1, fault.2) (usage_weaker _ none c.in_err-scans.ensures.err)

pub returns-in_err-time-clause-err : goal.returns-in_err-time-clause-err
returns-in_err-time-clause-err c =
    let none = no_lasting_of_time (rows_of (found_of c.args.found.now)) in
    let fault = err_from_is_err_and c.from_residual-in_err-time.result c.from_residual-in_err-time.ensures.1 in
    rw (fault.1, fault.2) (usage_weaker _ none c.in_err-time.ensures.err)
