use Rattle.std.proofs.Common.{refl}
use Rattle.clap.specs.Words.{found_of, rows_of}
use Rattle.cli_arguments.proofs.Differing.{no_diff_runs_with_coil, no_diff_with_search, no_verdicts_with_coil}
use Rattle.cli_arguments.proofs.Faults.{no_comparison, usage_weaker}
use Rattle.cli_arguments.proofs.comparing.coil_task.Goals as goal

pub returns-then-names_search-clause-err : goal.returns-then-names_search-clause-err
returns-then-names_search-clause-err c =
    let rows = rows_of (found_of c.args.found.now) in
    no_comparison rows (no_diff_with_search rows (c.if-names_search.ensures.some refl)) (no_verdicts_with_coil rows c.requires) (no_diff_runs_with_coil rows c.requires)

pub returns-in-Err-clause-err : goal.returns-in-Err-clause-err
returns-in-Err-clause-err c =
    let rows = rows_of (found_of c.args.found.now) in
    usage_weaker _ (λ none. no_comparison rows none (no_verdicts_with_coil rows c.requires) (no_diff_runs_with_coil rows c.requires)) c.in-Err.ensures.err
