-- How a comparison ends: its list is written, or a fault stops it.
use Rattle.std.specs.Prelude.{◌≡◌, ◌⊎◌, ℕ, List, Option, None, Some, Result, Ok, Err}
use Rattle.causes_query.specs.Causes.{Question}
use Rattle.search_differences.specs.declared.side.Side.{Side}
use Rattle.io_text.specs.Log.{PutsAll, PutsPrefix, WriteLog}
use Rattle.text_causes.specs.Progress.{TellsAll, TellsUntil}
use Rattle.text_causes.specs.declared.progress.ProgressFault.TheVariants as progress
use Rattle.text_differences.specs.DifferenceText.{difference_text}
use Rattle.diff_causes.specs.Differences.{differences_to}
use Rattle.cli_arguments.specs.declared.request.DiffForm.{DiffForm}
use Rattle.cli_arguments.specs.declared.request.DiffForm.TheVariants as form
use Rattle.cli_arguments.specs.declared.request.DiffRequest.{DiffRequest}
use Rattle.cli_inputs.specs.declared.fault.ToolFault.{ToolFault}
use Rattle.cli_inputs.specs.declared.fault.ToolFault.TheVariants.{Write}
use Rattle.cli_inputs.specs.Reports.{IsReported, IsReportedBy, Logs}
use Rattle.cli_inputs.specs.Setting.{Given}
use Rattle.cli_questions.specs.Ending.{BreaksOff, Ends, Listing, counts_line, unless_quiet}
use Rattle.cli_questions.specs.declared.counting.ListCounts.{ListCounts}
use Rattle.cli_diff.specs.Asking.{AreAsked}
use Rattle.cli_diff.specs.Faults.{given_of, new_refusal, old_refusal}
use Rattle.cli_diff.specs.Listing.{DiffList, differences_for, row_counts, rows_text}
use Rattle.cli_diff.specs.declared.sided.SidedFault.{SidedFault}

-- a list of what is asked of both programs
abbrev pub Compares : Given → Given → DiffRequest → Listing
Compares g h r text c = (old new : Question) × AreAsked g h r old new × DiffList r.form r.limit old new text c

-- ---- a list that tells how far it is

-- the text of the rows up to n
abbrev pub rows_text_to : Option ℕ → Option ℕ → Option ℕ → Question → Question → ℕ → List ℕ
rows_text_to limit after upto old new n = difference_text old.program old.listed (differences_to n (differences_for limit after upto old new))

-- the line of counts, where it isn't left out
abbrev pub row_counts_text : DiffRequest → Option ℕ → Option ℕ → Question → Question → List ℕ
row_counts_text r after upto old new = unless_quiet r.quiet (counts_line (row_counts r.limit after upto old new))

-- So much was written of what is asked of both programs.
pub record TellsDiff (g h : Given) (r : DiffRequest) (Written : Question → Question → Type 0) : Type 0 where
  pub old : Question
  pub new : Question
  pub asked : AreAsked g h r old new
  pub old_accepted : old_refusal r.form old ≡ None
  pub new_accepted : new_refusal r.form new ≡ None
  pub written : Written old new

-- The rows are written, and on `err` the lines of some numbers, and then the counts.
abbrev pub TellsRows : Given → Given → DiffRequest → Option ℕ → Option ℕ → Logs → Logs → Type 0
TellsRows g h r after upto s t = TellsDiff g h r (λ old new. (told : WriteLog)
    × TellsAll (rows_text r.limit after upto old new) s.out t.out s.err told × PutsAll told t.err (row_counts_text r after upto old new))

-- `out` failed at the rows, with all of them up to the last number that was told; or `err` at a line, when the rows up to its number were written
-- whole; or at the counts.
abbrev pub BreaksRows : Given → Given → DiffRequest → Option ℕ → Option ℕ → Logs → Logs → Type 0
BreaksRows g h r after upto s t = TellsDiff g h r (λ old new.
    ((told : WriteLog) × TellsUntil progress.Rows (rows_text_to r.limit after upto old new) (rows_text r.limit after upto old new) s.out t.out s.err told
    × IsReported g told t.err Write)
    ⊎ (TellsUntil progress.Lines (rows_text_to r.limit after upto old new) (rows_text r.limit after upto old new) s.out t.out s.err t.err
    ⊎ ((told : WriteLog) × TellsAll (rows_text r.limit after upto old new) s.out t.out s.err told × PutsPrefix told t.err (row_counts_text r after upto old new))))

-- ---- any list

-- Status 0: the list was written, and then the line of its counts.
abbrev pub CountsBy : DiffForm → Given → Given → DiffRequest → Logs → Logs → Type 0
CountsBy (form.Progress after upto) g h r s t = TellsRows g h r after upto s t
CountsBy other g h r s t = Ends (Compares g h r) r.quiet s.out t.out (PutsAll s.err t.err)

abbrev pub CountsDiff : Given → Given → DiffRequest → Logs → Logs → Type 0
CountsDiff g h r = CountsBy r.form g h r

-- Status 1, by a fault that the texts and arguments have: nothing was written but what is said of it on `err`.
pub record RefusesOf (g h : Given) (Has : Option Side → ToolFault → Type 0) (old new : Logs) : Type 0 where
  pub side : Option Side
  pub reason : ToolFault
  pub has : Has side reason
  pub unwritten : new.out ≡ old.out
  pub unsaved : new.save ≡ old.save
  pub reported : IsReportedBy side (given_of side g h) old.err new.err reason

-- Status 1, by a writer that failed.
abbrev pub BreaksBy : DiffForm → Given → Given → DiffRequest → Logs → Logs → Type 0
BreaksBy (form.Progress after upto) g h r = BreaksRows g h r after upto
BreaksBy other g h r = BreaksOff g (Compares g h r) r.quiet

abbrev pub BreaksDiff : Given → Given → DiffRequest → Logs → Logs → Type 0
BreaksDiff g h r = BreaksBy r.form g h r

-- Private: nothing is to be told of how far the list is.
abbrev pub IsUntold : DiffForm → Type 0
IsUntold (form.Progress after upto) = ⊥
IsUntold other = Unit {0}

-- Private to the lists: one was written, whole or as far as the writer took it; or it was refused, and nothing was written.
abbrev pub WritesOf : Listing → (Option Side → ToolFault → Type 0) → WriteLog → WriteLog → Result ListCounts SidedFault → Type 0
WritesOf Is Refused out out' (Ok c) = (text : List ℕ) × Is text (Some c) × PutsAll out out' text
WritesOf Is Refused out out' (Err e) = (Refused e.side e.fault × (out' ≡ out))
    ⊎ ((e ≡ record { side = None; fault = Write }) × ((text : List ℕ) × Is text None × PutsPrefix out out' text))
