-- The verdicts by what searches found.
use Rattle.std.specs.Prelude.{◌≡◌, map, not}
use Rattle.diff_meaning.specs.declared.verdict.Verdict.{Verdict}
use Rattle.diff_meaning.specs.declared.verdict.Verdict.TheVariants.{Same, Differs, Unsettled}
use Rattle.diff_meaning.specs.declared.verdict.Verdicts.{Verdicts}
use Rattle.diff_run_verdicts.specs.declared.findings.RunFindings.{RunFindings}
use Rattle.diff_search.specs.declared.difference.RunDifference.{RunDifference}
use Rattle.diff_search.specs.declared.difference.RunDifference.TheVariants.{Never, Open, Shown}

-- no runs, or some that show a difference; where that isn't settled the verdict isn't
abbrev pub verdict_of : RunDifference → Verdict
verdict_of (Shown runs) = Differs runs.value (not runs.value)
verdict_of Never = Same
verdict_of (Open scans) = Unsettled

-- The verdicts are those by what was found.
pub record AreToldOf (found : RunFindings) (verdicts : Verdicts) : Type 0 where
  pub variables : verdicts.variables.items ≡ map verdict_of found.variables.items
  pub instances : verdicts.instances.items ≡ map verdict_of found.instances.items
