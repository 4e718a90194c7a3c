use Rattle.std.proofs.lemmas.Result.{err_from_is_err_and}
use Rattle.clap.specs.Words.{found_of, rows_of}
use Rattle.cli_arguments.proofs.Faults.{no_trace_of_every, no_trace_of_played, usage_weaker}
use Rattle.cli_arguments.proofs.simulating.traced_of.Goals as goal

pub returns-in_err-pause-clause-err : goal.returns-in_err-pause-clause-err
returns-in_err-pause-clause-err c =
    let none = no_trace_of_every (rows_of (found_of c.args.found.now)) in
    let fault = err_from_is_err_and c.from_residual.result c.from_residual.ensures.1 in
    rw (fault.1, fault.2) (usage_weaker _ none c.in_err-pause.ensures.err)

pub returns-in_err-state-clause-err : goal.returns-in_err-state-clause-err
returns-in_err-state-clause-err c =
    let none = no_trace_of_played (rows_of (found_of c.args.found.now)) in
    let fault = err_from_is_err_and c.from_residual-in_err-state.result c.from_residual-in_err-state.ensures.1 in
    rw (fault.1, fault.2) (usage_weaker _ none c.in_err-state.ensures.err)
