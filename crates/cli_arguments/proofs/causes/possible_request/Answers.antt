use Rattle.std.proofs.Common.{refl}
use Rattle.std.proofs.lemmas.Result.{err_from_is_err_and}
use Rattle.clap.specs.Words.{found_of, rows_of}
use Rattle.cli_arguments.proofs.Faults.{no_possible_of_bound, no_possible_of_grouping, no_possible_of_list, no_possible_of_looks, no_possible_of_runs, usage_weaker}
use Rattle.cli_arguments.proofs.causes.possible_request.Goals as goal

pub returns-then-is_bound-clause-err : goal.returns-then-is_bound-clause-err
returns-then-is_bound-clause-err c = no_possible_of_bound (rows_of (found_of c.args.found.now)) c.requires (c.if-is_bound.ensures.some refl)

pub returns-in_err-refuse_grouping-clause-err : goal.returns-in_err-refuse_grouping-clause-err
returns-in_err-refuse_grouping-clause-err c =
    let none = no_possible_of_grouping (rows_of (found_of c.args.found.now)) c.requires in
    let fault = err_from_is_err_and c.from_residual.result c.from_residual.ensures.1 in
    rw (fault.1, fault.2) (usage_weaker _ none c.in_err-refuse_grouping.ensures.err)

pub returns-in_err-runs-clause-err : goal.returns-in_err-runs-clause-err
returns-in_err-runs-clause-err c =
    let none = no_possible_of_runs (rows_of (found_of c.args.found.now)) c.requires in
    let fault = err_from_is_err_and c.from_residual-in_err-runs.result c.from_residual-in_err-runs.ensures.1 in
    rw (fault.1, fault.2) (usage_weaker _ none c.in_err-runs.ensures.err)

pub returns-in_err-limit-clause-err : goal.returns-in_err-limit-clause-err
returns-in_err-limit-clause-err c =
    let none = no_possible_of_list (rows_of (found_of c.args.found.now)) c.requires in
    let fault = err_from_is_err_and c.from_residual-in_err-limit.result c.from_residual-in_err-limit.ensures.1 in
    rw (fault.1, fault.2) (usage_weaker _ none c.in_err-limit.ensures.err)

pub returns-in_err-looks-clause-err : goal.returns-in_err-looks-clause-err
returns-in_err-looks-clause-err c =
    let none = no_possible_of_looks (rows_of (found_of c.args.found.now)) c.requires in
    let fault = err_from_is_err_and c.from_residual-in_err-looks.result c.from_residual-in_err-looks.ensures.1 in
    rw (fault.1, fault.2) (usage_weaker _ none c.in_err-looks.ensures.err)
