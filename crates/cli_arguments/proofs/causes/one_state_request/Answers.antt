use Rattle.std.proofs.lemmas.Result.{err_from_is_err_and}
use Rattle.clap.specs.Words.{found_of, rows_of}
use Rattle.cli_arguments.proofs.Faults.{no_lasting, usage_weaker}
use Rattle.cli_arguments.proofs.causes.one_state_request.Goals as goal

pub returns-in_err-lasting_of-clause-err : goal.returns-in_err-lasting_of-clause-err
returns-in_err-lasting_of-clause-err c =
    let none = no_lasting (rows_of (found_of c.args.found.now)) c.requires.one_state c.requires.named in
    let fault = err_from_is_err_and c.from_residual.result c.from_residual.ensures.1 in
    rw (fault.1, fault.2) (usage_weaker _ none c.in_err-lasting_of.ensures.err)
