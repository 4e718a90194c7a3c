-- Two programs that were judged over runs, and what searches found.
use Rattle.std.specs.Prelude.{◌++◌, ℕ, Bool, List, Option, None, Some, slice_get}
use Rattle.diagram_program.specs.Program.{Drawing}
use Rattle.diff_matching.specs.Matching.{Matching}
use Rattle.diff_run_verdicts.specs.declared.findings.RunFindings.{RunFindings}
use Rattle.diff_search.specs.declared.difference.RunDifference.{RunDifference}
use Rattle.diff_search.specs.declared.difference.RunDifference.TheVariants.{Shown}
use Rattle.diff_search.specs.declared.difference.TwoRuns.{TwoRuns}

-- The programs, what belongs together in them, what was found, and whether a fault is explained.
pub record JudgedInRuns : Type 0 where
  pub old : Drawing
  pub new : Drawing
  pub matching : Matching
  pub found : RunFindings
  pub why : Bool

-- what was found of all names: of variables, and then of instances
abbrev pub all_found : JudgedInRuns → List RunDifference
all_found j = j.found.variables.items ++ j.found.instances.items

-- what was found of the name with a number, counted from 0
abbrev pub found_at : JudgedInRuns → ℕ → Option RunDifference
found_at j number = slice_get (all_found j) number

-- the runs that show a difference, where some were found
abbrev pub runs_in : Option RunDifference → Option TwoRuns
runs_in (Some (Shown runs)) = Some runs
runs_in other = None

-- those that show that the name with a number differs
abbrev pub shown_at : JudgedInRuns → ℕ → Option TwoRuns
shown_at j number = runs_in (found_at j number)
