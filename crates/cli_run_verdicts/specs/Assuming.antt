-- What is assumed of the inputs of two programs that are judged over runs, and what is counted then.
use Rattle.std.specs.Prelude.{ℕ, false, List, Option, None, Some, unwrap_or}
use Rattle.diff_findings.specs.declared.finding.Finding.{Finding}
use Rattle.diff_runs.specs.Assuming.{Assumptions, assumptions}
use Rattle.diff_runs.specs.Assuming as runs
use Rattle.cli_questions.specs.declared.counting.ListCounts.{ListCounts}
use Rattle.cli_diff.specs.Assumed.{Assumption}
use Rattle.cli_verdicts.specs.Ending.{counts_by}
use Rattle.cli_run_verdicts.specs.declared.assuming.RunsAssuming.{RunsAssuming}

-- What is true in each scan, and of how many expressions it is made, where something is assumed.
pub record RunsAssumption : Type 0 where
  pub both : Assumptions
  pub expressions : Option ℕ

abbrev pub nothing : RunsAssumption
nothing = record { both = runs.nothing; expressions = None }

-- what a request assumes of two programs, of their runs
abbrev pub in_runs : Option Assumption → RunsAssumption
in_runs None = nothing
in_runs (Some a) = record { both = record { old = a.old; new = a.new }; expressions = Some a.expressions }

-- what is counted of findings
abbrev pub run_counts : (expressions : Option ℕ) → List Finding → ListCounts
run_counts expressions list = counts_by (unwrap_or expressions 0) list false

-- Private: as it is passed on.
abbrev pub assumption : RunsAssuming → RunsAssumption
assumption a = record { both = assumptions a.assumed; expressions = a.expressions }
