use Rattle.std.proofs.Common.{refl}
use Rattle.std.proofs.lemmas.Result.{err_from_is_err_and}
use Rattle.clap.specs.Words.{found_of, rows_of}
use Rattle.cli_arguments.proofs.Differing.{no_verdicts_of_names, no_verdicts_of_runs}
use Rattle.cli_arguments.proofs.Faults.{usage_weaker}
use Rattle.cli_arguments.proofs.comparing.verdict_request.Goals as goal

pub returns-then-names_run_search-clause-err : goal.returns-then-names_run_search-clause-err
returns-then-names_run_search-clause-err c = no_verdicts_of_runs (rows_of (found_of c.args.found.now)) (c.if-names_run_search.ensures.some refl)

pub returns-in_err-names_all-clause-err : goal.returns-in_err-names_all-clause-err
returns-in_err-names_all-clause-err c =
    let none = no_verdicts_of_names (rows_of (found_of c.args.found.now)) in
    let fault = err_from_is_err_and c.from_residual.result c.from_residual.ensures.1 in
    rw (fault.1, fault.2) (usage_weaker _ none c.in_err-names_all.ensures.err)
