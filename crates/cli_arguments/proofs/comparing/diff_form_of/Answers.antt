use Rattle.std.proofs.lemmas.Result.{err_from_is_err_and}
use Rattle.clap.specs.Words.{found_of, rows_of}
use Rattle.cli_arguments.proofs.Differing.{no_diff_of_forms, no_diff_of_lasting}
use Rattle.cli_arguments.proofs.Faults.{usage_weaker}
use Rattle.cli_arguments.proofs.comparing.diff_form_of.Goals as goal

pub returns-in_err-lasting-clause-err : goal.returns-in_err-lasting-clause-err
returns-in_err-lasting-clause-err c =
    let none = no_diff_of_lasting (rows_of (found_of c.args.found.now)) (rw c.if-is_set.false at c.is_set.ensures) in
    let fault = err_from_is_err_and c.from_residual-in_err-lasting.result c.from_residual-in_err-lasting.ensures.1 in
    rw (fault.1, fault.2) (usage_weaker _ none c.in_err-lasting.ensures.err)

pub returns-in_err-refuse_grouping-clause-err : goal.returns-in_err-refuse_grouping-clause-err
returns-in_err-refuse_grouping-clause-err c =
    let none = no_diff_of_forms (rows_of (found_of c.args.found.now)) (rw c.if-is_set.false at c.is_set.ensures) in
    let fault = err_from_is_err_and c.from_residual.result c.from_residual.ensures.1 in
    rw (fault.1, fault.2) (usage_weaker _ none c.in_err-refuse_grouping.ensures.err)
