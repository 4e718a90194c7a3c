use Rattle.std.proofs.Common.{refl}
use Rattle.std.proofs.lemmas.Result.{err_from_is_err_and}
use Rattle.clap.specs.Words.{found_of, rows_of}
use Rattle.cli_arguments.proofs.Faults.{no_waves_of_every, no_waves_of_expect, no_waves_of_played, no_waves_of_save, no_waves_of_rows, usage_weaker}
use Rattle.cli_arguments.proofs.simulating.waves_request.Goals as goal

pub returns-then-is_given-clause-err : goal.returns-then-is_given-clause-err
returns-then-is_given-clause-err c = no_waves_of_save (rows_of (found_of c.args.found.now)) c.requires (c.if-is_given.ensures.given refl).0

pub returns-then-is_given-2-clause-err : goal.returns-then-is_given-2-clause-err
returns-then-is_given-2-clause-err c = no_waves_of_expect (rows_of (found_of c.args.found.now)) c.requires (c.if-is_given-2.ensures.given refl).0

pub returns-then-not-is_plain-clause-err : goal.returns-then-not-is_plain-clause-err
returns-then-not-is_plain-clause-err c = no_waves_of_rows (rows_of (found_of c.args.found.now)) c.requires (c.is_plain.ensures.other c.if-not-is_plain.true)

pub returns-in_err-pause-clause-err : goal.returns-in_err-pause-clause-err
returns-in_err-pause-clause-err c =
    let none = no_waves_of_every (rows_of (found_of c.args.found.now)) c.requires in
    let fault = err_from_is_err_and c.from_residual.result c.from_residual.ensures.1 in
    rw (fault.1, fault.2) (usage_weaker _ none c.in_err-pause.ensures.err)

pub returns-in_err-state-clause-err : goal.returns-in_err-state-clause-err
returns-in_err-state-clause-err c =
    let none = no_waves_of_played (rows_of (found_of c.args.found.now)) c.requires in
    let fault = err_from_is_err_and c.from_residual-in_err-state.result c.from_residual-in_err-state.ensures.1 in
    rw (fault.1, fault.2) (usage_weaker _ none c.in_err-state.ensures.err)
