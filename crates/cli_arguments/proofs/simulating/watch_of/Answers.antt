use Rattle.std.proofs.lemmas.Result.{err_from_is_err_and}
use Rattle.clap.specs.Words.{found_of, rows_of}
use Rattle.cli_arguments.proofs.Faults.{no_watch_of_names, no_watch_of_trace, usage_weaker}
use Rattle.cli_arguments.proofs.simulating.watch_of.Goals as goal

pub returns-in_err-all-clause-err : goal.returns-in_err-all-clause-err
returns-in_err-all-clause-err c =
    let none = no_watch_of_names (rows_of (found_of c.args.found.now)) in
    let fault = err_from_is_err_and c.from_residual.result c.from_residual.ensures.1 in
    rw (fault.1, fault.2) (usage_weaker _ none c.in_err-all.ensures.err)

pub returns-in_err-sim-clause-err : goal.returns-in_err-sim-clause-err
returns-in_err-sim-clause-err c =
    let none = no_watch_of_trace (rows_of (found_of c.args.found.now)) in
    let fault = err_from_is_err_and c.from_residual-in_err-sim.result c.from_residual-in_err-sim.ensures.1 in
    rw (fault.1, fault.2) (usage_weaker _ none c.in_err-sim.ensures.err)
