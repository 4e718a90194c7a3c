use Rattle.std.proofs.Common.{refl}
use Rattle.std.proofs.lemmas.Result.{err_from_is_err_and}
use Rattle.clap.specs.Words.{found_of, rows_of}
use Rattle.cli_arguments.proofs.Faults.{no_film_of_scan, no_film_of_waves, usage_weaker}
use Rattle.cli_arguments.proofs.showing.film_request.Goals as goal

pub returns-then-names_scan-clause-err : goal.returns-then-names_scan-clause-err
returns-then-names_scan-clause-err c = no_film_of_scan (rows_of (found_of c.args.found.now)) c.requires (c.if-names_scan.ensures.some refl)

pub returns-in_err-state-clause-err : goal.returns-in_err-state-clause-err
returns-in_err-state-clause-err c =
    let none = no_film_of_waves (rows_of (found_of c.args.found.now)) c.requires in
    let fault = err_from_is_err_and c.from_residual-in_err-state.result c.from_residual-in_err-state.ensures.1 in
    rw (fault.1, fault.2) (usage_weaker _ none c.in_err-state.ensures.err)
