use Rattle.std.proofs.Common.{refl}
use Rattle.std.proofs.lemmas.Result.{err_from_is_err_and}
use Rattle.clap.specs.Words.{found_of, rows_of}
use Rattle.cli_arguments.proofs.Faults.{no_relevant_groups_of_grouping, no_relevant_groups_of_start, no_relevant_of_list, usage_weaker}
use Rattle.cli_arguments.proofs.grouping.relevant_groups.Goals as goal

pub returns-then-is_given-clause-err : goal.returns-then-is_given-clause-err
returns-then-is_given-clause-err c =
    no_relevant_groups_of_start (rows_of (found_of c.args.found.now)) c.requires.relevant c.requires.grouped (c.if-is_given.ensures.given refl).1

pub returns-in_err-grouping-clause-err : goal.returns-in_err-grouping-clause-err
returns-in_err-grouping-clause-err c =
    let none = no_relevant_groups_of_grouping (rows_of (found_of c.args.found.now)) c.requires.relevant c.requires.grouped in
    let fault = err_from_is_err_and c.from_residual.result c.from_residual.ensures.1 in
    rw (fault.1, fault.2) (usage_weaker _ none c.in_err-grouping.ensures.err)

pub returns-in_err-list-clause-err : goal.returns-in_err-list-clause-err
returns-in_err-list-clause-err c =
    let none = no_relevant_of_list (rows_of (found_of c.args.found.now)) c.requires.relevant in
    let fault = err_from_is_err_and c.from_residual-in_err-list.result c.from_residual-in_err-list.ensures.1 in
    rw (fault.1, fault.2) (usage_weaker _ none c.in_err-list.ensures.err)
