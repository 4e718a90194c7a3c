use Rattle.std.proofs.lemmas.Result.{err_from_is_err_and}
use Rattle.clap.specs.Words.{found_of, rows_of}
use Rattle.cli_arguments.proofs.Differing.{not_all_of_forms}
use Rattle.cli_arguments.proofs.Faults.{usage_weaker}
use Rattle.cli_arguments.proofs.comparing.names_all.Goals as goal

pub returns-in_err-refuse_grouping-clause-err : goal.returns-in_err-refuse_grouping-clause-err
returns-in_err-refuse_grouping-clause-err c =
    let none = not_all_of_forms (rows_of (found_of c.args.found.now)) in
    let fault = err_from_is_err_and c.from_residual.result c.from_residual.ensures.1 in
    rw (fault.1, fault.2) (usage_weaker _ none c.in_err-refuse_grouping.ensures.err)
