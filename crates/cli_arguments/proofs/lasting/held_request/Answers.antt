use Rattle.std.proofs.Common.{refl}
use Rattle.std.proofs.lemmas.Result.{err_from_is_err_and}
use Rattle.clap.specs.Words.{found_of, rows_of}
use Rattle.cli_arguments.proofs.Faults.{no_causes_of_list, no_held_of_every, no_held_of_grouping, no_held_of_part, usage_weaker}
use Rattle.cli_arguments.proofs.lasting.held_request.Goals as goal

pub returns-then-is_part-clause-err : goal.returns-then-is_part-clause-err
returns-then-is_part-clause-err c = no_held_of_part (rows_of (found_of c.args.found.now)) c.requires.one_state c.requires.named c.args.lasting c.requires.lasting (c.if-is_part.ensures.part refl)

pub returns-in_err-refuse_grouping-clause-err : goal.returns-in_err-refuse_grouping-clause-err
returns-in_err-refuse_grouping-clause-err c =
    let none = no_held_of_grouping (rows_of (found_of c.args.found.now)) c.requires.one_state c.requires.named c.args.lasting c.requires.lasting in
    let fault = err_from_is_err_and c.from_residual.result c.from_residual.ensures.1 in
    rw (fault.1, fault.2) (usage_weaker _ none c.in_err-refuse_grouping.ensures.err)

pub returns-in_err-every-clause-err : goal.returns-in_err-every-clause-err
returns-in_err-every-clause-err c =
    let none = no_held_of_every (rows_of (found_of c.args.found.now)) c.requires.one_state c.requires.named c.args.lasting c.requires.lasting in
    let fault = err_from_is_err_and c.from_residual-in_err-every.result c.from_residual-in_err-every.ensures.1 in
    rw (fault.1, fault.2) (usage_weaker _ none c.in_err-every.ensures.err)

pub returns-in_err-list-clause-err : goal.returns-in_err-list-clause-err
returns-in_err-list-clause-err c =
    let none = no_causes_of_list (rows_of (found_of c.args.found.now)) c.requires.one_state c.requires.named in
    let fault = err_from_is_err_and c.from_residual-in_err-list.result c.from_residual-in_err-list.ensures.1 in
    rw (fault.1, fault.2) (usage_weaker _ none c.in_err-list.ensures.err)
