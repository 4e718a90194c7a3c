use Rattle.std.proofs.lemmas.Result.{err_from_is_err_and}
use Rattle.clap.specs.Words.{found_of, rows_of}
use Rattle.cli_arguments.proofs.Differing.{no_held_diff_of_every}
use Rattle.cli_arguments.proofs.Faults.{usage_weaker}
use Rattle.cli_arguments.proofs.comparing.diff_held_of.Goals as goal

pub returns-in_err-every-clause-err : goal.returns-in_err-every-clause-err
returns-in_err-every-clause-err c =
    let none = no_held_diff_of_every (rows_of (found_of c.args.found.now)) c.requires.table c.args.lasting c.requires.lasting in
    let fault = err_from_is_err_and c.from_residual.result c.from_residual.ensures.1 in
    rw (fault.1, fault.2) (usage_weaker _ none c.in_err-every.ensures.err)
