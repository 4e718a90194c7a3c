-- How the judging of two programs over runs ends: what was found is written, or a fault stops it.
use Rattle.std.specs.Prelude.{◌≡◌, ◌⊎◌, ℕ, false, List, Option, None, Some, IfSome, Result, Ok, Err}
use Rattle.diagram_program.specs.Program.{Drawing}
use Rattle.diagram_reader.specs.Titled.{HasProgram}
use Rattle.search_differences.specs.declared.side.Side.{Side}
use Rattle.diff_matching.specs.Matching.{Matching}
use Rattle.diff_matching.specs.Names.{IsByNames}
use Rattle.diff_meaning.specs.declared.verdict.Verdicts.{Verdicts}
use Rattle.diff_findings.specs.Findings.{findings}
use Rattle.diff_run_verdicts.specs.RunVerdicts.{AreFound, AreFoundAssuming, AreTrueOfRuns, AreTrueOfRunsAssuming}
use Rattle.diff_run_verdicts.specs.Telling.{AreToldOf}
use Rattle.diff_run_verdicts.specs.declared.findings.RunFindings.{RunFindings}
use Rattle.text_findings.specs.FindingText.{findings_text}
use Rattle.io_text.specs.Log.{PutsAll, PutsPrefix, WriteLog}
use Rattle.cli_arguments.specs.declared.request.DiffRunsRequest.{DiffRunsRequest}
use Rattle.cli_inputs.specs.declared.fault.ToolFault.{ToolFault}
use Rattle.cli_inputs.specs.declared.fault.ToolFault.TheVariants as fault
use Rattle.cli_inputs.specs.Reports.{Logs}
use Rattle.cli_inputs.specs.Setting.{Given}
use Rattle.cli_questions.specs.Ending.{BreaksOff, Ends, Listing}
use Rattle.cli_questions.specs.declared.counting.ListCounts.{ListCounts}
use Rattle.cli_verdicts.specs.Together.{HasAssumedFault, IsAssumedWhere}
use Rattle.cli_diff.specs.Assumed.{Assumption}
use Rattle.cli_diff.specs.AssumedEnding.{Assumes}
use Rattle.cli_diff.specs.Ending.{RefusesOf}
use Rattle.cli_verdicts.specs.Ending.{HasTextFault, verdict_counts}
use Rattle.cli_run_verdicts.specs.Assuming.{RunsAssumption, in_runs, run_counts}
use Rattle.cli_run_verdicts.specs.Judged.{JudgedInRuns}

-- The text of what is found of two programs in runs, and what is counted of it: by what belongs together by names, and verdicts each of which is
-- true of all runs from the fresh states. Nothing is said of equivalence.
pub record FindsInRuns (p q : Drawing) (text : List ℕ) (c : Option ListCounts) : Type 0 where
  pub matching : Matching
  pub verdicts : Verdicts
  pub names : IsByNames matching p q
  pub judged : AreTrueOfRuns matching p q verdicts
  pub written : text ≡ findings_text p q (findings p q matching verdicts)
  pub counted : IfSome c (λ n. n ≡ verdict_counts (findings p q matching verdicts) false)

-- The same, where this belongs together, and this is what searches found, by which the verdicts are told.
abbrev pub FindsKeeping : Drawing → Drawing → Matching → RunFindings → Listing
FindsKeeping p q m found text c = (f : FindsInRuns p q text c) × (f.matching ≡ m) × AreFound m p q found × AreToldOf found f.verdicts

-- ---- where something is assumed

-- The text and the counts, by verdicts each of which is true of all runs from the fresh states in each scan of which what is assumed is true.
pub record FindsInRunsAssuming (a : RunsAssumption) (p q : Drawing) (text : List ℕ) (c : Option ListCounts) : Type 0 where
  pub matching : Matching
  pub verdicts : Verdicts
  pub names : IsByNames matching p q
  pub judged : AreTrueOfRunsAssuming a.both matching p q verdicts
  pub written : text ≡ findings_text p q (findings p q matching verdicts)
  pub counted : IfSome c (λ n. n ≡ run_counts a.expressions (findings p q matching verdicts))

abbrev pub FindsKeepingAssuming : RunsAssumption → Drawing → Drawing → Matching → RunFindings → Listing
FindsKeepingAssuming a p q m found text c = (f : FindsInRunsAssuming a p q text c) × (f.matching ≡ m) × AreFoundAssuming a.both m p q found × AreToldOf found f.verdicts

-- This is found where this is assumed, if something is.
abbrev pub FindsInRunsWhere : Option Assumption → Drawing → Drawing → Listing
FindsInRunsWhere None p q text c = FindsInRuns p q text c
FindsInRunsWhere (Some a) p q text c = FindsInRunsAssuming (in_runs (Some a)) p q text c

abbrev pub FindsKeepingWhere : Option Assumption → Drawing → Drawing → Matching → RunFindings → Listing
FindsKeepingWhere None p q m found text c = FindsKeeping p q m found text c
FindsKeepingWhere (Some a) p q m found text c = FindsKeepingAssuming (in_runs (Some a)) p q m found text c

-- ---- what a request assumes

abbrev pub assumes_of : DiffRunsRequest → Assumes
assumes_of r = record { expressions = r.assumed.items; takes_comments = r.takes_comments }

-- This is found of two programs in runs in which what the request assumes of their inputs is true, if it assumes something.
pub record FindsAsked (g h : Given) (r : DiffRunsRequest) (p q : Drawing) (text : List ℕ) (c : Option ListCounts) : Type 0 where
  pub assumption : Option Assumption
  pub assumed : IsAssumedWhere g h (assumes_of r) p q assumption
  pub found : FindsInRunsWhere assumption p q text c

-- The same, by what is kept.
pub record FindsKeepingAsked (g h : Given) (r : DiffRunsRequest) (p q : Drawing) (m : Matching) (found : RunFindings) (text : List ℕ) (c : Option ListCounts)
    : Type 0 where
  pub assumption : Option Assumption
  pub assumed : IsAssumedWhere g h (assumes_of r) p q assumption
  pub kept : FindsKeepingWhere assumption p q m found text c

-- ---- how the judging ends

-- The texts describe the two programs.
abbrev pub JudgesRuns : Given → Given → DiffRunsRequest → Listing
JudgesRuns g h r text c = (p q : Drawing) × HasProgram g.aliases g.program p × HasProgram h.aliases h.program q × FindsAsked g h r p q text c

-- Status 0: what was found was written, and then the line of counts.
abbrev pub CountsRuns : Given → Given → DiffRunsRequest → WriteLog → WriteLog → (List ℕ → Type 0) → Type 0
CountsRuns g h r = Ends (JudgesRuns g h r) r.quiet

-- Status 1, by a writer that failed.
abbrev pub BreaksRuns : Given → Given → DiffRunsRequest → Logs → Logs → Type 0
BreaksRuns g h r = BreaksOff g (JudgesRuns g h r) r.quiet

-- A fault of the texts; or, where they describe two programs, of what is assumed of their inputs.
abbrev pub HasRunsFault : Given → Given → DiffRunsRequest → Option Side → ToolFault → Type 0
HasRunsFault g h r side f = HasTextFault g h side f
    ⊎ ((p q : Drawing) × HasProgram g.aliases g.program p × HasProgram h.aliases h.program q × HasAssumedFault side g h (assumes_of r) p q f)

-- Status 1: such a fault, or a writer that failed.
abbrev pub FailsToJudgeRuns : Given → Given → DiffRunsRequest → Logs → Logs → Type 0
FailsToJudgeRuns g h r old new = RefusesOf g h (HasRunsFault g h r) old new ⊎ BreaksRuns g h r old new

-- ---- what is kept

-- The programs are those that the texts describe, and the text is what is found of them, by what is kept.
abbrev pub JudgesKeeping : Given → Given → DiffRunsRequest → JudgedInRuns → Listing
JudgesKeeping g h r j text c = HasProgram g.aliases g.program j.old × HasProgram h.aliases h.program j.new
    × FindsKeepingAsked g h r j.old j.new j.matching j.found text c

-- What was found was written, and then the line of counts, and the findings are kept.
abbrev pub KeepsRuns : Given → Given → DiffRunsRequest → JudgedInRuns → WriteLog → WriteLog → (List ℕ → Type 0) → Type 0
KeepsRuns g h r j = Ends (JudgesKeeping g h r j) r.quiet

-- ---- private to the judging

-- What is found by these verdicts is written, whole or as far as the writer took it; or memory ran out, and nothing was written.
abbrev pub WritesTold : (expressions : Option ℕ) → Drawing → Drawing → Matching → Verdicts → WriteLog → WriteLog → Result ListCounts ToolFault → Type 0
WritesTold expressions p q m v out out' (Ok n) = PutsAll out out' (findings_text p q (findings p q m v)) × (n ≡ run_counts expressions (findings p q m v))
WritesTold expressions p q m v out out' (Err f) = ((f ≡ fault.Memory) × (out' ≡ out)) ⊎ ((f ≡ fault.Write) × PutsPrefix out out' (findings_text p q (findings p q m v)))

-- The same of what is found of two programs.
abbrev pub FailsToWriteRuns : RunsAssumption → Drawing → Drawing → WriteLog → WriteLog → ToolFault → Type 0
FailsToWriteRuns a p q out out' f = ((f ≡ fault.Memory) × (out' ≡ out))
    ⊎ ((f ≡ fault.Write) × ((text : List ℕ) × FindsInRunsAssuming a p q text None × PutsPrefix out out' text))

abbrev pub WritesKeeping : RunsAssumption → Drawing → Drawing → Matching → RunFindings → WriteLog → WriteLog → ListCounts → Type 0
WritesKeeping a p q m found out out' n = (text : List ℕ) × FindsKeepingAssuming a p q m found text (Some n) × PutsAll out out' text

-- Status 1, of two programs that were read: memory ran out, or a writer failed.
abbrev pub FailsToFindRuns : RunsAssumption → Given → Given → DiffRunsRequest → Drawing → Drawing → Logs → Logs → Type 0
FailsToFindRuns a g h r p q old new = RefusesOf g h (HasTextFault g h) old new ⊎ BreaksOff g (FindsInRunsAssuming a p q) r.quiet old new
