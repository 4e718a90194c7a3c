use Rattle.std.proofs.Common.{refl}
use Rattle.std.proofs.lemmas.Result.{err_from_is_err_and}
use Rattle.clap.specs.Words.{found_of, rows_of}
use Rattle.cli_arguments.proofs.Faults.{no_causes_of_list, no_groups_of_grouping, no_groups_of_scan, usage_weaker}
use Rattle.cli_arguments.proofs.grouping.groups_request.Goals as goal

pub returns-then-is_counted-clause-err : goal.returns-then-is_counted-clause-err
returns-then-is_counted-clause-err c =
    no_groups_of_scan (rows_of (found_of c.args.found.now)) c.requires.one_state c.requires.named c.requires.grouped c.requires.lasting (c.if-is_counted.ensures.several refl)

pub returns-in_err-grouping-clause-err : goal.returns-in_err-grouping-clause-err
returns-in_err-grouping-clause-err c =
    let none = no_groups_of_grouping (rows_of (found_of c.args.found.now)) c.requires.one_state c.requires.named c.requires.grouped c.requires.lasting in
    let fault = err_from_is_err_and c.from_residual.result c.from_residual.ensures.1 in
    rw (fault.1, fault.2) (usage_weaker _ none c.in_err-grouping.ensures.err)

pub returns-in_err-list-clause-err : goal.returns-in_err-list-clause-err
returns-in_err-list-clause-err c =
    let none = no_causes_of_list (rows_of (found_of c.args.found.now)) c.requires.one_state c.requires.named in
    let fault = err_from_is_err_and c.from_residual-in_err-list.result c.from_residual-in_err-list.ensures.1 in
    rw (fault.1, fault.2) (usage_weaker _ none c.in_err-list.ensures.err)
