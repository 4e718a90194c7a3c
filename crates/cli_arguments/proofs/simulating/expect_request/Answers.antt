use Rattle.std.proofs.lemmas.Result.{err_from_is_err_and}
use Rattle.clap.specs.Words.{found_of, rows_of}
use Rattle.cli_arguments.proofs.Faults.{no_expect, no_expect_of_name, usage_weaker}
use Rattle.cli_arguments.proofs.simulating.expect_request.Goals as goal

pub returns-in_err-expected-clause-err : goal.returns-in_err-expected-clause-err
returns-in_err-expected-clause-err c =
    let none = no_expect_of_name (rows_of (found_of c.args.found.now)) c.requires.vcd c.requires.expect in
    let fault = err_from_is_err_and c.from_residual.result c.from_residual.ensures.1 in
    rw (fault.1, fault.2) (usage_weaker _ none c.in_err-expected.ensures.err)

pub returns-in-Err-clause-err : goal.returns-in-Err-clause-err
returns-in-Err-clause-err c =
    usage_weaker _ (no_expect (rows_of (found_of c.args.found.now)) c.requires.vcd c.requires.expect) c.in-Err.ensures.err
