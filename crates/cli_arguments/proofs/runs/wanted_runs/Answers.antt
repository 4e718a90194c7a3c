use Rattle.std.proofs.Common.{refl}
use Rattle.std.proofs.lemmas.Result.{err_from_is_err_and}
use Rattle.clap.specs.Words.{found_of, rows_of}
use Rattle.cli_arguments.proofs.Faults.{no_runs_of_plain, no_runs_of_states, usage_weaker}
use Rattle.cli_arguments.proofs.runs.wanted_runs.Goals as goal

pub returns-then-not-is_plain-clause-err : goal.returns-then-not-is_plain-clause-err
returns-then-not-is_plain-clause-err c = no_runs_of_plain (rows_of (found_of c.args.found.now)) c.requires (c.if-not-is_plain.ensures.other refl)

pub returns-in_err-states-clause-err : goal.returns-in_err-states-clause-err
returns-in_err-states-clause-err c =
    let none = no_runs_of_states (rows_of (found_of c.args.found.now)) c.requires in
    let fault = err_from_is_err_and c.from_residual.result c.from_residual.ensures.1 in
    rw (fault.1, fault.2) (usage_weaker _ none c.in_err-states.ensures.err)
