-- Private to the writer of causes in runs: the rows as far as they are written.
use Rattle.std.specs.Prelude.{ℕ, IfOk, List, length, map, Option, Result}
use Rattle.causes_in_runs.specs.Rows.{RunCursor}
use Rattle.causes_in_runs.specs.declared.row.RunCause.{RunCause}
use Rattle.io_text.specs.Text.{lines_text}
use Rattle.io_text.specs.Buffer.{Sends, SendsAll}
use Rattle.io_text.specs.Log.{WriteLog}
use Rattle.io_text.specs.declared.fault.WriteFault.{WriteFault}
use Rattle.text_runs.specs.CauseText.{AreAll, AreFew, Gave, IsCount, run_record}
use Rattle.text_runs.specs.declared.cause_rows.RunSummary.{RunSummary}

abbrev pub row_lines : RunCursor → List RunCause → List ℕ
row_lines c rows = lines_text (map (run_record (length c.listed)) rows)

-- These rows were added.
pub record AddsRows (a b : WriteLog) (waited waits : List ℕ) (c d : RunCursor) (limit : Option ℕ) (r : Result RunSummary WriteFault) : Type 0 where
  pub rows : List RunCause
  pub gave : Gave c rows d
  pub few : AreFew limit rows
  pub sends : Sends a b waited waits r (row_lines c rows)
  pub counts : IfOk r (λ s. IsCount s rows)
  pub all : IfOk r (λ _. AreAll d rows limit)

-- So it is as far as they are added.
pub record AddedRows (a b : WriteLog) (waited waits : List ℕ) (c d : RunCursor) (s : RunSummary) : Type 0 where
  pub rows : List RunCause
  pub gave : Gave c rows d
  pub sends : SendsAll a b waited waits (row_lines c rows)
  pub counts : IsCount s rows
