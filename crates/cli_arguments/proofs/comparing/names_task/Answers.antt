use Rattle.clap.specs.Words.{found_of, rows_of}
use Rattle.cli_arguments.proofs.Differing.{no_diff_runs_without, no_diff_without_coil, no_verdicts_with_runs}
use Rattle.cli_arguments.proofs.Faults.{no_comparison, usage_weaker}
use Rattle.cli_arguments.proofs.comparing.names_task.Goals as goal

pub returns-in-Err-clause-err : goal.returns-in-Err-clause-err
returns-in-Err-clause-err c =
    let rows = rows_of (found_of c.args.found.now) in
    let runs = rw c.if-is_set.true at c.is_set.ensures in
    usage_weaker _ (no_comparison rows (no_diff_without_coil rows c.requires) (no_verdicts_with_runs rows runs)) c.in-Err.ensures.err

pub returns-in-Err-verdict_request-clause-err : goal.returns-in-Err-verdict_request-clause-err
returns-in-Err-verdict_request-clause-err c =
    let rows = rows_of (found_of c.args.found.now) in
    let none = rw c.if-is_set.false at c.is_set.ensures in
    usage_weaker _ (λ nothing. no_comparison rows (no_diff_without_coil rows c.requires) nothing (no_diff_runs_without rows none)) c.in-Err-verdict_request.ensures.err
