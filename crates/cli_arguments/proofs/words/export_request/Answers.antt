use Rattle.std.proofs.lemmas.Result.{err_from_is_err_and}
use Rattle.clap.specs.Words.{found_of, rows_of}
use Rattle.cli_arguments.proofs.Faults.{no_export, no_language, usage_weaker}
use Rattle.cli_arguments.proofs.words.export_request.Goals as goal

pub returns-in_err-file-clause-err : goal.returns-in_err-file-clause-err
returns-in_err-file-clause-err c =
    let none = no_export (rows_of (found_of c.args.found.now)) in
    let fault = err_from_is_err_and c.from_residual-in_err-file.result c.from_residual-in_err-file.ensures.1 in
    rw (fault.1, fault.2) (usage_weaker _ none c.in_err-file.ensures.err)

pub returns-in_err-language-clause-err : goal.returns-in_err-language-clause-err
returns-in_err-language-clause-err c =
    let none = no_language (rows_of (found_of c.args.found.now)) in
    let fault = err_from_is_err_and c.from_residual.result c.from_residual.ensures.1 in
    rw (fault.1, fault.2) (usage_weaker _ none c.in_err-language.ensures.err)
