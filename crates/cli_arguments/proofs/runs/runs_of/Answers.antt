use Rattle.std.proofs.Common.{refl}
use Rattle.clap.specs.Words.{found_of, rows_of}
use Rattle.cli_arguments.proofs.Faults.{no_runs_of_names}
use Rattle.cli_arguments.proofs.runs.runs_of.Goals as goal

pub returns-then-names_runs-clause-err : goal.returns-then-names_runs-clause-err
returns-then-names_runs-clause-err c = no_runs_of_names (rows_of (found_of c.args.found.now)) c.if-is_set.ensures (c.if-names_runs.ensures.some refl)
