-- Private to the writer of what is possible: the rows as far as they are written.
use Rattle.std.specs.Prelude.{ℕ, IfOk, List, length, map, Option, Result}
use Rattle.causes_any_state.specs.Possible.{PossibleCursor}
use Rattle.causes_any_state.specs.declared.possible.PossibleCause.{PossibleCause}
use Rattle.io_text.specs.Text.{lines_text}
use Rattle.io_text.specs.Buffer.{Sends, SendsAll}
use Rattle.io_text.specs.Log.{WriteLog}
use Rattle.io_text.specs.declared.fault.WriteFault.{WriteFault}
use Rattle.text_lists.specs.PossibleText.{AreAll, AreFew, Gave, IsCount, possible_record}
use Rattle.text_lists.specs.declared.possible_text.PossibleSummary.{PossibleSummary}

abbrev pub row_lines : PossibleCursor → List PossibleCause → List ℕ
row_lines c rows = lines_text (map (possible_record (length c.listed)) rows)

-- These rows were added.
pub record AddsRows (a b : WriteLog) (waited waits : List ℕ) (c d : PossibleCursor) (limit : Option ℕ) (r : Result PossibleSummary WriteFault) : Type 0 where
  pub rows : List PossibleCause
  pub gave : Gave c rows d
  pub few : AreFew limit rows
  pub sends : Sends a b waited waits r (row_lines c rows)
  pub counts : IfOk r (λ s. IsCount s rows)
  pub all : IfOk r (λ _. AreAll d rows limit)

-- So it is as far as they are added.
pub record AddedRows (a b : WriteLog) (waited waits : List ℕ) (c d : PossibleCursor) (s : PossibleSummary) : Type 0 where
  pub rows : List PossibleCause
  pub gave : Gave c rows d
  pub sends : SendsAll a b waited waits (row_lines c rows)
  pub counts : IsCount s rows
