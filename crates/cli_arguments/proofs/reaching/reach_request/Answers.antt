use Rattle.std.proofs.lemmas.Result.{err_from_is_err_and}
use Rattle.clap.specs.Words.{found_of, rows_of}
use Rattle.cli_arguments.proofs.Faults.{no_reach_of_file, no_reach_of_moment, no_reach_of_name, no_reach_of_pace, no_reach_of_states, usage_weaker}
use Rattle.cli_arguments.proofs.reaching.reach_request.Goals as goal

pub returns-in_err-moment-clause-err : goal.returns-in_err-moment-clause-err
returns-in_err-moment-clause-err c =
    let none = no_reach_of_moment (rows_of (found_of c.args.found.now)) in
    let fault = err_from_is_err_and c.from_residual.result c.from_residual.ensures.1 in
    rw (fault.1, fault.2) (usage_weaker _ none c.in_err-moment.ensures.err)

pub returns-in_err-pace-clause-err : goal.returns-in_err-pace-clause-err
returns-in_err-pace-clause-err c =
    let none = no_reach_of_pace (rows_of (found_of c.args.found.now)) in
    let fault = err_from_is_err_and c.from_residual-in_err-pace.result c.from_residual-in_err-pace.ensures.1 in
    rw (fault.1, fault.2) (usage_weaker _ none c.in_err-pace.ensures.err)

pub returns-in_err-states-clause-err : goal.returns-in_err-states-clause-err
returns-in_err-states-clause-err c =
    let none = no_reach_of_states (rows_of (found_of c.args.found.now)) in
    let fault = err_from_is_err_and c.from_residual-in_err-states.result c.from_residual-in_err-states.ensures.1 in
    rw (fault.1, fault.2) (usage_weaker _ none c.in_err-states.ensures.err)

pub returns-in_err-state-clause-err : goal.returns-in_err-state-clause-err
returns-in_err-state-clause-err c =
    let none = no_reach_of_file (rows_of (found_of c.args.found.now)) in
    let fault = err_from_is_err_and c.from_residual-in_err-state.result c.from_residual-in_err-state.ensures.1 in
    rw (fault.1, fault.2) (usage_weaker _ none c.in_err-state.ensures.err)

pub returns-in_err-name-clause-err : goal.returns-in_err-name-clause-err
returns-in_err-name-clause-err c =
    let none = no_reach_of_name (rows_of (found_of c.args.found.now)) in
    let fault = err_from_is_err_and c.from_residual-in_err-name.result c.from_residual-in_err-name.ensures.1 in
    rw (fault.1, fault.2) (usage_weaker _ none c.in_err-name.ensures.err)
