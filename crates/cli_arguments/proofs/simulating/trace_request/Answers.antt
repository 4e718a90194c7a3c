use Rattle.clap.specs.Words.{found_of, rows_of}
use Rattle.cli_arguments.proofs.Faults.{no_trace, usage_weaker}
use Rattle.cli_arguments.proofs.simulating.trace_request.Goals as goal

pub returns-in-Err-clause-err : goal.returns-in-Err-clause-err
returns-in-Err-clause-err c =
    usage_weaker _ (no_trace (rows_of (found_of c.args.found.now)) c.requires.vcd c.requires.expect c.requires.plain) c.in-Err.ensures.err
