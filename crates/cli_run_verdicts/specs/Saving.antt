-- What is written into the files of runs that show a difference.
use Rattle.std.specs.Prelude.{◌≡◌, ℕ, List, Option, None, Some}
use Rattle.io_text.specs.Log.{PutsAll, PutsPrefix, WriteLog}
use Rattle.search_differences.specs.declared.side.Side.{Side}
use Rattle.search_differences.specs.declared.side.Side.TheVariants.{Old, New}
use Rattle.diff_search.specs.declared.difference.TwoRuns.{TwoRuns}
use Rattle.text_runs.specs.RunText.{run_text}
use Rattle.cli_run_verdicts.specs.Judged.{JudgedInRuns}

-- the text of a file: the run of the old program, or that of the new one
abbrev pub run_file : Side → JudgedInRuns → TwoRuns → List ℕ
run_file Old j runs = run_text j.old runs.old.items
run_file New j runs = run_text j.new runs.new.items

-- The run was written; where no runs were found, nothing was.
abbrev pub SavesRun : Side → JudgedInRuns → Option TwoRuns → WriteLog → WriteLog → Type 0
SavesRun side j (Some runs) old new = PutsAll old new (run_file side j runs)
SavesRun side j None old new = new ≡ old

-- Its writer failed, after a part of the text.
abbrev pub BreaksRun : Side → JudgedInRuns → Option TwoRuns → WriteLog → WriteLog → Type 0
BreaksRun side j (Some runs) old new = PutsPrefix old new (run_file side j runs)
BreaksRun side j None old new = ⊥
