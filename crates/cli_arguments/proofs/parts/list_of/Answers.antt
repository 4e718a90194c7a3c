use Rattle.std.proofs.lemmas.Result.{err_from_is_err_and}
use Rattle.clap.specs.Words.{found_of, rows_of}
use Rattle.cli_arguments.proofs.Faults.{no_list_of_coil, no_list_of_limit, no_list_of_scan, usage_weaker}
use Rattle.cli_arguments.proofs.parts.list_of.Goals as goal

pub returns-in_err-limit-clause-err : goal.returns-in_err-limit-clause-err
returns-in_err-limit-clause-err c =
    let none = no_list_of_limit (rows_of (found_of c.args.found.now)) in
    let fault = err_from_is_err_and c.from_residual.result c.from_residual.ensures.1 in
    rw (fault.1, fault.2) (usage_weaker _ none c.in_err-limit.ensures.err)

pub returns-in_err-coil-clause-err : goal.returns-in_err-coil-clause-err
returns-in_err-coil-clause-err c =
    let none = no_list_of_coil (rows_of (found_of c.args.found.now)) in
    let fault = err_from_is_err_and c.from_residual-in_err-coil.result c.from_residual-in_err-coil.ensures.1 in
    rw (fault.1, fault.2) (usage_weaker _ none c.in_err-coil.ensures.err)

pub returns-in_err-state-clause-err : goal.returns-in_err-state-clause-err
returns-in_err-state-clause-err c =
    let none = no_list_of_scan (rows_of (found_of c.args.found.now)) in
    let fault = err_from_is_err_and c.from_residual-in_err-state.result c.from_residual-in_err-state.ensures.1 in
    rw (fault.1, fault.2) (usage_weaker _ none c.in_err-state.ensures.err)
