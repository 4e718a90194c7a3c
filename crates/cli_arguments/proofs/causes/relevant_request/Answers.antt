use Rattle.std.proofs.Common.{refl}
use Rattle.std.proofs.lemmas.Result.{err_from_is_err_and}
use Rattle.clap.specs.Words.{found_of, rows_of}
use Rattle.cli_arguments.proofs.Faults.{no_relevant_of_end, no_relevant_of_grouping, no_relevant_of_inputs, no_relevant_of_list, no_relevant_of_scans, no_relevant_of_start, usage_weaker}
use Rattle.cli_arguments.proofs.causes.relevant_request.Goals as goal

pub returns-then-lists_inputs-clause-err : goal.returns-then-lists_inputs-clause-err
returns-then-lists_inputs-clause-err c = no_relevant_of_inputs (rows_of (found_of c.args.found.now)) c.requires.relevant (c.if-lists_inputs.ensures.some refl)

pub returns-then-is_repeated-clause-err : goal.returns-then-is_repeated-clause-err
returns-then-is_repeated-clause-err c = no_relevant_of_scans (rows_of (found_of c.args.found.now)) c.requires.relevant (c.if-is_repeated.ensures.several refl)

pub returns-then-names_end-clause-err : goal.returns-then-names_end-clause-err
returns-then-names_end-clause-err c = no_relevant_of_end (rows_of (found_of c.args.found.now)) c.requires.relevant (c.if-names_end.ensures.some refl)

pub returns-in_err-refuse_grouping-clause-err : goal.returns-in_err-refuse_grouping-clause-err
returns-in_err-refuse_grouping-clause-err c =
    let none = no_relevant_of_grouping (rows_of (found_of c.args.found.now)) c.requires.relevant c.if-is_set.ensures in
    let fault = err_from_is_err_and c.from_residual.result c.from_residual.ensures.1 in
    rw (fault.1, fault.2) (usage_weaker _ none c.in_err-refuse_grouping.ensures.err)

pub returns-in_err-start-clause-err : goal.returns-in_err-start-clause-err
returns-in_err-start-clause-err c =
    let none = no_relevant_of_start (rows_of (found_of c.args.found.now)) c.requires.relevant c.if-is_set.ensures in
    let fault = err_from_is_err_and c.from_residual-in_err-start.result c.from_residual-in_err-start.ensures.1 in
    rw (fault.1, fault.2) (usage_weaker _ none c.in_err-start.ensures.err)

pub returns-in_err-list-clause-err : goal.returns-in_err-list-clause-err
returns-in_err-list-clause-err c =
    let none = no_relevant_of_list (rows_of (found_of c.args.found.now)) c.requires.relevant in
    let fault = err_from_is_err_and c.from_residual-in_err-list.result c.from_residual-in_err-list.ensures.1 in
    rw (fault.1, fault.2) (usage_weaker _ none c.in_err-list.ensures.err)
