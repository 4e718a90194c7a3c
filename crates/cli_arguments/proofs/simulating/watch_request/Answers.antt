use Rattle.clap.specs.Words.{found_of, rows_of}
use Rattle.cli_arguments.proofs.Faults.{no_watch, usage_weaker}
use Rattle.cli_arguments.proofs.simulating.watch_request.Goals as goal

pub returns-in-Err-clause-err : goal.returns-in-Err-clause-err
returns-in-Err-clause-err c =
    usage_weaker _ (no_watch (rows_of (found_of c.args.found.now)) c.requires.vcd c.requires.expect c.requires.other) c.in-Err.ensures.err
