use Rattle.std.proofs.Common.{refl}
use Rattle.clap.specs.Words.{found_of, rows_of}
use Rattle.cli_arguments.proofs.Faults.{no_one_state}
use Rattle.cli_arguments.proofs.causes.causes_request.Goals as goal

pub returns-then-names_states-clause-err : goal.returns-then-names_states-clause-err
returns-then-names_states-clause-err c = no_one_state (rows_of (found_of c.args.found.now)) c.if-is_set.ensures (c.if-names_states.ensures.some refl)
