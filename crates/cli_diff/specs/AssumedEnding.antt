-- How a comparison ends that may assume something of the inputs: its list is that of the combinations with which it is true in both programs.
use Rattle.std.specs.Prelude.{◌≡◌, ◌⊎◌, ◌++◌, ◌+◌, ◌&&◌, ◌==◌, not, ℕ, Bool, true, false, List, [], Option, None, Some, String, length, map, string_bytes}
use Rattle.std.specs.Global.{Global}
use Rattle.st_expression.specs.declared.expression.Expression.{Expression}
use Rattle.diagram_declarations.specs.Decls.{Declared}
use Rattle.causes_query.specs.Causes.{Question}
use Rattle.assume_comments.specs.Comments.{AreAssumed}
use Rattle.assume_reading.specs.Several.{AreAssumptions}
use Rattle.search_differences.specs.declared.side.Side.{Side}
use Rattle.search_differences.specs.declared.side.Side.TheVariants.{Old, New}
use Rattle.diff_causes.specs.Differences.{differences_to}
use Rattle.io_text.specs.Log.{PutsAll, PutsPrefix, WriteLog}
use Rattle.text_causes.specs.Progress.{TellsAll, TellsUntil}
use Rattle.text_causes.specs.declared.progress.ProgressFault.TheVariants as progress
use Rattle.text_differences.specs.DifferenceText.{difference_text}
use Rattle.cli_arguments.specs.declared.request.DiffForm.{DiffForm}
use Rattle.cli_arguments.specs.declared.request.DiffForm.TheVariants as form
use Rattle.cli_arguments.specs.declared.request.DiffRequest.{DiffRequest}
use Rattle.cli_inputs.specs.declared.fault.ToolFault.{ToolFault}
use Rattle.cli_inputs.specs.declared.fault.ToolFault.TheVariants as fault
use Rattle.cli_inputs.specs.Reports.{IsReported, Logs}
use Rattle.cli_inputs.specs.Setting.{Given}
use Rattle.cli_questions.specs.Ending.{BreaksOff, Ends, counts_line, unless_quiet}
use Rattle.cli_assumed.specs.Assumed.{HasAssumptionFault}
use Rattle.cli_diff.specs.Asking.{AreAsked}
use Rattle.cli_diff.specs.declared.assuming.Assumes as passed
use Rattle.cli_diff.specs.Assumed.{AssumedList, Assumption, IsEverTrueInBoth, IsNeverTrueInBoth, assumed_counts, assumed_for, assumed_text}
use Rattle.cli_diff.specs.Ending.{BreaksDiff, CountsDiff}
use Rattle.cli_diff.specs.Faults.{HasDiffFault, HasOwnFaultOf, IsRefusedOf, new_refusal, old_refusal, words_of}

-- ---- what is assumed

-- What the comments of a program text assume counts where the request takes it.
abbrev pub AreTaken : (takes : Bool) → (program : List ℕ) → (comments : List (List ℕ)) → Type 0
AreTaken true program comments = AreAssumed program comments
AreTaken false program comments = comments ≡ []

-- What a request of two programs assumes: its expressions, and whether those of comments count too.
pub record Assumes : Type 0 where
  pub expressions : List (String Global)
  pub takes_comments : Bool

-- Private: as it is passed on.
abbrev pub assumes_in : passed.Assumes → Assumes
assumes_in a = record { expressions = a.expressions.now; takes_comments = a.takes_comments }

abbrev pub assumes_of : DiffRequest → Assumes
assumes_of r = record { expressions = r.assumed.items; takes_comments = r.takes_comments }

-- the expressions that are assumed of a program: those of its comments, and then those of the request
abbrev pub expressions_of : Assumes → (comments : List (List ℕ)) → List (List ℕ)
expressions_of w comments = comments ++ map string_bytes w.expressions

-- They are read by the names of the program.
abbrev pub IsAssumedOf : Assumes → (program : List ℕ) → Declared → (comments : List (List ℕ)) → Option Expression → Type 0
IsAssumedOf w program decls comments assumed = AreTaken w.takes_comments program comments × AreAssumptions decls (expressions_of w comments) assumed

-- The expressions are counted once: those of the comments of both programs, and those of the request.
pub record IsAssumedOfTwo (g h : Given) (w : Assumes) (old new : Declared) (a : Assumption) : Type 0 where
  pub old_comments : List (List ℕ)
  pub new_comments : List (List ℕ)
  pub of_old : IsAssumedOf w g.program old old_comments a.old
  pub of_new : IsAssumedOf w h.program new new_comments a.new
  pub counted : a.expressions ≡ length old_comments + (length new_comments + length w.expressions)

abbrev pub IsAssumedOfBoth : Given → Given → DiffRequest → Question → Question → Assumption → Type 0
IsAssumedOfBoth g h r old new a = IsAssumedOfTwo g h (assumes_of r) old.program.decls new.program.decls a

-- ---- how a list of two questions ends with what is assumed

-- the text of the rows up to n
abbrev pub assumed_text_to : Assumption → Option ℕ → Option ℕ → Option ℕ → Question → Question → ℕ → List ℕ
assumed_text_to a limit after upto old new n = difference_text old.program old.listed (differences_to n (assumed_for a limit after upto old new))

-- the line of counts, where it isn't left out
abbrev pub assumed_counts_text : Assumption → DiffRequest → Option ℕ → Option ℕ → Question → Question → List ℕ
assumed_counts_text a r after upto old new = unless_quiet r.quiet (counts_line (assumed_counts a r.limit after upto old new))

-- The rows are written, and on `err` the lines of some numbers, and then the counts.
abbrev pub TellsAssumed : Assumption → DiffRequest → Option ℕ → Option ℕ → Question → Question → Logs → Logs → Type 0
TellsAssumed a r after upto old new s t = (told : WriteLog)
    × TellsAll (assumed_text a r.limit after upto old new) s.out t.out s.err told × PutsAll told t.err (assumed_counts_text a r after upto old new)

-- `out` failed at the rows, with all of them up to the last number that was told; or `err` at a line, when the rows up to its number were written
-- whole; or at the counts.
abbrev pub BreaksAssumed : Given → Assumption → DiffRequest → Option ℕ → Option ℕ → Question → Question → Logs → Logs → Type 0
BreaksAssumed g a r after upto old new s t =
    ((told : WriteLog) × TellsUntil progress.Rows (assumed_text_to a r.limit after upto old new) (assumed_text a r.limit after upto old new) s.out t.out s.err told
    × IsReported g told t.err fault.Write)
    ⊎ (TellsUntil progress.Lines (assumed_text_to a r.limit after upto old new) (assumed_text a r.limit after upto old new) s.out t.out s.err t.err
    ⊎ ((told : WriteLog) × TellsAll (assumed_text a r.limit after upto old new) s.out t.out s.err told × PutsPrefix told t.err (assumed_counts_text a r after upto old new)))

-- Neither question is refused, and the list was written, and then the line of its counts.
abbrev pub CountsAssumed : DiffForm → Assumption → DiffRequest → Question → Question → Logs → Logs → Type 0
CountsAssumed (form.Progress after upto) a r old new s t =
    (old_refusal (form.Progress after upto) old ≡ None) × (new_refusal (form.Progress after upto) new ≡ None) × TellsAssumed a r after upto old new s t
CountsAssumed other a r old new s t = Ends (AssumedList a other r.limit old new) r.quiet s.out t.out (PutsAll s.err t.err)

-- Neither question is refused, and a writer failed.
abbrev pub BreaksOffAssumed : DiffForm → Given → Assumption → DiffRequest → Question → Question → Logs → Logs → Type 0
BreaksOffAssumed (form.Progress after upto) g a r old new s t =
    (old_refusal (form.Progress after upto) old ≡ None) × (new_refusal (form.Progress after upto) new ≡ None) × BreaksAssumed g a r after upto old new s t
BreaksOffAssumed other g a r old new s t = BreaksOff g (AssumedList a other r.limit old new) r.quiet s t

-- ---- how a comparison ends

-- The request assumes nothing, and takes no comments.
abbrev pub assumes_nothing : DiffRequest → Bool
assumes_nothing r = length r.assumed.items == 0 && not r.takes_comments

-- This is asked of both programs and assumed of them, and so much was written.
pub record ComparesAssuming (g h : Given) (r : DiffRequest) (Written : Assumption → Question → Question → Type 0) : Type 0 where
  pub old : Question
  pub new : Question
  pub asked : AreAsked g h r old new
  pub assumption : Assumption
  pub assumed : IsAssumedOfBoth g h r old new assumption
  pub ever_true : IsEverTrueInBoth assumption.old assumption.new old new
  pub written : Written assumption old new

abbrev pub CountsAllBy : (nothing : Bool) → Given → Given → DiffRequest → Logs → Logs → Type 0
CountsAllBy true g h r s t = CountsDiff g h r s t
CountsAllBy false g h r s t = ComparesAssuming g h r (λ a old new. CountsAssumed r.form a r old new s t)

-- Status 0: the list was written, and then the line of its counts.
abbrev pub CountsAllDiff : Given → Given → DiffRequest → Logs → Logs → Type 0
CountsAllDiff g h r = CountsAllBy (assumes_nothing r) g h r

abbrev pub BreaksAllBy : (nothing : Bool) → Given → Given → DiffRequest → Logs → Logs → Type 0
BreaksAllBy true g h r s t = BreaksDiff g h r s t
BreaksAllBy false g h r s t = ComparesAssuming g h r (λ a old new. BreaksOffAssumed r.form g a r old new s t)

-- Status 1, by a writer that failed.
abbrev pub BreaksAllDiff : Given → Given → DiffRequest → Logs → Logs → Type 0
BreaksAllDiff g h r = BreaksAllBy (assumes_nothing r) g h r

-- ---- faults

-- The first expression of a program that is refused, by its number among those of the program; or being out of memory.
abbrev pub HasExpressionFault : Assumes → (program : List ℕ) → Declared → ToolFault → Type 0
HasExpressionFault w program decls f = (f ≡ fault.Memory)
    ⊎ ((comments : List (List ℕ)) × AreTaken w.takes_comments program comments × HasAssumptionFault decls (expressions_of w comments) f)

-- Those of the old program are read first, and then those of the new one.
abbrev pub HasExpressionFaultOfTwo : Option Side → Given → Given → Assumes → Declared → Declared → ToolFault → Type 0
HasExpressionFaultOfTwo None g h w old new f = ⊥
HasExpressionFaultOfTwo (Some Old) g h w old new f = HasExpressionFault w g.program old f
HasExpressionFaultOfTwo (Some New) g h w old new f =
    ((comments : List (List ℕ)) × (assumed : Option Expression) × IsAssumedOf w g.program old comments assumed) × HasExpressionFault w h.program new f

abbrev pub HasExpressionFaultOf : Option Side → Given → Given → DiffRequest → Question → Question → ToolFault → Type 0
HasExpressionFaultOf side g h r old new f = HasExpressionFaultOfTwo side g h (assumes_of r) old.program.decls new.program.decls f

-- What is assumed is never true in both: a fault of neither program alone.
abbrev pub IsNeverTrueFault : Assumption → Question → Question → Option Side → ToolFault → Type 0
IsNeverTrueFault a old new side f = (side ≡ None) × (f ≡ fault.NeverTrue) × IsNeverTrueInBoth a.old a.new old new

-- What is asked is refused, or what is assumed is never true.
abbrev pub IsRefusedAssuming : DiffForm → Assumption → Question → Question → Option Side → ToolFault → Type 0
IsRefusedAssuming form a old new side f = IsRefusedOf form old new side f ⊎ IsNeverTrueFault a old new side f

-- A fault is looked for in the texts and the words, then in the expressions, and then in what is asked with them.
abbrev pub DiffFaultBy : (nothing : Bool) → Given → Given → DiffRequest → Option Side → ToolFault → Type 0
DiffFaultBy true g h r side f = HasDiffFault g h r side f
DiffFaultBy false g h r side f = HasOwnFaultOf side g h (words_of r) f
    ⊎ ((old new : Question) × AreAsked g h r old new × (HasExpressionFaultOf side g h r old new f
    ⊎ ((a : Assumption) × IsAssumedOfBoth g h r old new a × IsRefusedAssuming r.form a old new side f)))

abbrev pub HasAllDiffFault : Given → Given → DiffRequest → Option Side → ToolFault → Type 0
HasAllDiffFault g h r = DiffFaultBy (assumes_nothing r) g h r
