use Rattle.std.proofs.Common.{refl}
use Rattle.std.proofs.lemmas.Result.{err_from_is_err_and}
use Rattle.clap.specs.Words.{found_of, rows_of}
use Rattle.cli_arguments.proofs.Faults.{no_causes_of_list, no_list_of_end, no_list_of_every, no_list_of_grouping, no_list_of_start, usage_weaker}
use Rattle.cli_arguments.proofs.causes.list_request.Goals as goal

pub returns-in_err-refuse_grouping-clause-err : goal.returns-in_err-refuse_grouping-clause-err
returns-in_err-refuse_grouping-clause-err c =
    let none = no_list_of_grouping (rows_of (found_of c.args.found.now)) c.requires.one_state c.requires.named c.requires.single c.requires.lasting in
    let fault = err_from_is_err_and c.from_residual.result c.from_residual.ensures.1 in
    rw (fault.1, fault.2) (usage_weaker _ none c.in_err-refuse_grouping.ensures.err)

pub returns-then-is_given-clause-err : goal.returns-then-is_given-clause-err
returns-then-is_given-clause-err c =
    no_list_of_every (rows_of (found_of c.args.found.now)) c.requires.one_state c.requires.named c.requires.single c.requires.lasting (c.if-is_given.ensures.given refl).1

pub returns-in_err-after-clause-err : goal.returns-in_err-after-clause-err
returns-in_err-after-clause-err c =
    let none = no_list_of_start (rows_of (found_of c.args.found.now)) c.requires.one_state c.requires.named in
    let fault = err_from_is_err_and c.from_residual-in_err-after.result c.from_residual-in_err-after.ensures.1 in
    rw (fault.1, fault.2) (usage_weaker _ none c.in_err-after.ensures.err)

pub returns-in_err-upto-clause-err : goal.returns-in_err-upto-clause-err
returns-in_err-upto-clause-err c =
    let none = no_list_of_end (rows_of (found_of c.args.found.now)) c.requires.one_state c.requires.named in
    let fault = err_from_is_err_and c.from_residual-in_err-upto.result c.from_residual-in_err-upto.ensures.1 in
    rw (fault.1, fault.2) (usage_weaker _ none c.in_err-upto.ensures.err)

pub returns-in_err-list-clause-err : goal.returns-in_err-list-clause-err
returns-in_err-list-clause-err c =
    let none = no_causes_of_list (rows_of (found_of c.args.found.now)) c.requires.one_state c.requires.named in
    let fault = err_from_is_err_and c.from_residual-in_err-list.result c.from_residual-in_err-list.ensures.1 in
    rw (fault.1, fault.2) (usage_weaker _ none c.in_err-list.ensures.err)
