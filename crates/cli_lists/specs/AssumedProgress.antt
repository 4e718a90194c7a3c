-- How a request for a list that tells how far it is ends, also where something is assumed of the inputs: the list is that of the combinations
-- with which it is true.
use Rattle.std.specs.Prelude.{◌≡◌, ◌⊎◌, ℕ, zero, Bool, true, false, List, Option, None, length}
use Rattle.st_expression.specs.declared.expression.Expression.{Expression}
use Rattle.causes_query.specs.Causes.{Question}
use Rattle.causes_one_scan.specs.Parts.{numbers_to}
use Rattle.assume_reading.specs.Several.{AreAssumptions}
use Rattle.text_causes.specs.CauseText.{cause_text}
use Rattle.text_causes.specs.Progress.{TellsAll, TellsUntil}
use Rattle.text_causes.specs.declared.progress.ProgressFault.TheVariants as progress
use Rattle.text_causes.specs.declared.summary.Summary.{Summary}
use Rattle.io_text.specs.Log.{PutsAll, PutsPrefix, WriteLog}
use Rattle.cli_arguments.specs.declared.request.ListRequest.{ListRequest}
use Rattle.cli_inputs.specs.declared.fault.ToolFault.TheVariants as fault
use Rattle.cli_inputs.specs.Setting.{Given}
use Rattle.cli_inputs.specs.Reports.{IsReported, Logs}
use Rattle.cli_questions.specs.declared.counting.ListCounts.{ListCounts}
use Rattle.cli_questions.specs.declared.counting.ListCounts.TheVariants as counts
use Rattle.cli_questions.specs.Ending.{IsAsked, counts_line, unless_quiet}
use Rattle.cli_assumed.specs.Assumed.{IsEverTrue}
use Rattle.cli_lists.specs.Assumed.{assumed_for, assumed_summary, assumed_text, assumes_nothing, texts_of}
use Rattle.cli_lists.specs.Lists.{BreaksProgress, CountsProgress, list_refusal}

-- the text of the rows up to n
abbrev pub assumed_text_to : Option Expression → Option ℕ → Option ℕ → Option ℕ → Question → ℕ → List ℕ
assumed_text_to assumed limit after upto q n = cause_text q.program q.listed (numbers_to n (assumed_for assumed limit after upto q))

-- The counts tell how many expressions there are, where there are any.
abbrev pub counts_by : (expressions : ℕ) → Summary → ListCounts
counts_by zero s = counts.Causes s
counts_by n s = counts.AssumedCauses s n

abbrev pub told_counts : (expressions : ℕ) → Option Expression → ListRequest → Option ℕ → Option ℕ → Question → List ℕ
told_counts n assumed r after upto q = unless_quiet r.quiet (counts_line (counts_by n (assumed_summary assumed r.limit after upto q)))

-- The rows are written, and on `err` the lines of some numbers, and then the counts.
abbrev pub TellsRows : (expressions : ℕ) → Option Expression → ListRequest → Option ℕ → Option ℕ → Question → Logs → Logs → Type 0
TellsRows n assumed r after upto q old new = (told : WriteLog)
    × TellsAll (assumed_text assumed r.limit after upto q) old.out new.out old.err told × PutsAll told new.err (told_counts n assumed r after upto q)

-- `out` failed at the rows, with all of them up to the last number that was told; or `err` at a line, when the rows up to its number were written
-- whole; or at the counts.
abbrev pub BreaksRows : Given → (expressions : ℕ) → Option Expression → ListRequest → Option ℕ → Option ℕ → Question → Logs → Logs → Type 0
BreaksRows g n assumed r after upto q old new =
    ((told : WriteLog) × TellsUntil progress.Rows (assumed_text_to assumed r.limit after upto q) (assumed_text assumed r.limit after upto q) old.out new.out old.err told
    × IsReported g told new.err fault.Write)
    ⊎ (TellsUntil progress.Lines (assumed_text_to assumed r.limit after upto q) (assumed_text assumed r.limit after upto q) old.out new.out old.err new.err
    ⊎ ((told : WriteLog) × TellsAll (assumed_text assumed r.limit after upto q) old.out new.out old.err told × PutsPrefix told new.err (told_counts n assumed r after upto q)))

-- So much was written of what is asked and what is assumed.
pub record ListsAssuming (g : Given) (r : ListRequest) (after upto : Option ℕ) (Written : Option Expression → Question → Type 0) : Type 0 where
  pub question : Question
  pub asked : IsAsked g r question
  pub assumed : Option Expression
  pub read : AreAssumptions question.program.decls (texts_of r) assumed
  pub ever_true : IsEverTrue assumed question
  pub accepted : list_refusal after upto question ≡ None
  pub written : Written assumed question

-- ---- how the requests end

abbrev pub CountsProgressBy : (nothing : Bool) → Given → ListRequest → Option ℕ → Option ℕ → Logs → Logs → Type 0
CountsProgressBy true g r after upto old new = CountsProgress g r after upto old new
CountsProgressBy false g r after upto old new =
    ListsAssuming g r after upto (λ assumed q. TellsRows (length (texts_of r)) assumed r after upto q old new)

abbrev pub BreaksProgressBy : (nothing : Bool) → Given → ListRequest → Option ℕ → Option ℕ → Logs → Logs → Type 0
BreaksProgressBy true g r after upto old new = BreaksProgress g r after upto old new
BreaksProgressBy false g r after upto old new =
    ListsAssuming g r after upto (λ assumed q. BreaksRows g (length (texts_of r)) assumed r after upto q old new)

abbrev pub CountsAllProgress : Given → ListRequest → Option ℕ → Option ℕ → Logs → Logs → Type 0
CountsAllProgress g r = CountsProgressBy (assumes_nothing r) g r

abbrev pub BreaksAllProgress : Given → ListRequest → Option ℕ → Option ℕ → Logs → Logs → Type 0
BreaksAllProgress g r = BreaksProgressBy (assumes_nothing r) g r
