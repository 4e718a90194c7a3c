-- How the judging of two programs ends: what was found is written, or a fault stops it.
use Rattle.std.specs.Prelude.{◌≡◌, ◌⊎◌, ℕ, zero, Bool, true, false, List, Option, None, Some, IfSome, Result, Ok, Err, option_map}
use Rattle.diagram_program.specs.Program.{Drawing}
use Rattle.diagram_reader.specs.Titled.{HasProgram}
use Rattle.scan_cycle.specs.Standing.{fresh}
use Rattle.invariant_sets.specs.Invariants.{IsStaying, IsStayingAssuming, input_numbers}
use Rattle.search_differences.specs.declared.side.Side.{Side}
use Rattle.search_differences.specs.declared.side.Side.TheVariants.{Old, New}
use Rattle.diff_matching.specs.Matching.{Matching}
use Rattle.diff_matching.specs.Names.{IsByNames}
use Rattle.diff_cases.specs.Assuming.{BothAssumed, assumed_of_both, nothing_of_both}
use Rattle.diff_meaning.specs.Counting.{Count, CountAssuming}
use Rattle.diff_meaning.specs.Verdicts.{AreTrue}
use Rattle.diff_meaning.specs.Witnesses.{AreWitnesses}
use Rattle.diff_meaning.specs.declared.counted.Counted.{Counted}
use Rattle.diff_meaning.specs.declared.counted.CountedStates.{CountedStates}
use Rattle.diff_meaning.specs.declared.counted.CountedStates.TheVariants.{All, Reachable}
use Rattle.diff_meaning.specs.declared.verdict.Verdicts.{Verdicts}
use Rattle.diff_meaning.specs.declared.witness.Witness.{Witness}
use Rattle.diff_findings.specs.Equivalence.{IsSaidOfRuns, IsSaidOfRunsAssuming}
use Rattle.diff_findings.specs.Findings.{findings}
use Rattle.diff_findings.specs.Tally.{tally_of}
use Rattle.diff_findings.specs.declared.finding.Finding.{Finding}
use Rattle.text_findings.specs.FindingText.{findings_text}
use Rattle.io_text.specs.Log.{PutsAll, PutsPrefix, WriteLog}
use Rattle.cli_arguments.specs.declared.request.VerdictRequest.{VerdictRequest}
use Rattle.cli_inputs.specs.declared.fault.ToolFault.{ToolFault}
use Rattle.cli_inputs.specs.declared.fault.ToolFault.TheVariants as fault
use Rattle.cli_inputs.specs.Reports.{Logs}
use Rattle.cli_inputs.specs.Setting.{Given, HasProgramFault}
use Rattle.cli_questions.specs.Ending.{BreaksOff, Ends, Listing}
use Rattle.cli_questions.specs.declared.counting.ListCounts.{ListCounts}
use Rattle.cli_questions.specs.declared.counting.ListCounts.TheVariants as counts
use Rattle.cli_diff.specs.Assumed.{Assumption}
use Rattle.cli_diff.specs.AssumedEnding.{Assumes}
use Rattle.cli_diff.specs.Ending.{RefusesOf}
use Rattle.cli_assumed_both.specs.Together.{HasAssumedFault, IsAssumedWhere}
use Rattle.cli_verdicts.specs.declared.assuming.AssumedOfBoth.{AssumedOfBoth}
use Rattle.cli_verdicts.specs.declared.writing.Wanted.{Wanted}

-- what is counted of findings
abbrev pub verdict_counts : List Finding → Bool → ListCounts
verdict_counts list is_equivalent = counts.Verdicts (tally_of list).same (tally_of list).differs (tally_of list).unsettled is_equivalent

-- Which states count: all, or those in which it is so what stays so in each program from its fresh state on, where these alone are asked for.
abbrev pub AreCounted : Bool → Drawing → Drawing → CountedStates → Type 0
AreCounted false p q All = Unit {0}
AreCounted true p q (Reachable old new) = IsStaying p (fresh p) old × IsStaying q (fresh q) new
AreCounted reachable p q other = ⊥

-- The text of what is found of two programs, and what is counted of it: by what belongs together by names, the states that count, and verdicts
-- each of which is true.
pub record Finds (reachable : Bool) (p q : Drawing) (text : List ℕ) (c : Option ListCounts) : Type 0 where
  pub matching : Matching
  pub states : CountedStates
  pub verdicts : Verdicts
  pub names : IsByNames matching p q
  pub count : AreCounted reachable p q states
  pub judged : AreTrue (Count states) matching p q verdicts
  pub written : text ≡ findings_text p q (findings p q matching verdicts)
  pub counted : IfSome c (λ n. (is_equivalent : Bool) × (n ≡ verdict_counts (findings p q matching verdicts) is_equivalent) × IsSaidOfRuns matching p q verdicts is_equivalent)

-- ---- where something is assumed

-- what is counted of findings: how many expressions are assumed too, where any are
abbrev pub counts_by : (expressions : ℕ) → List Finding → Bool → ListCounts
counts_by zero list is_equivalent = verdict_counts list is_equivalent
counts_by n list is_equivalent = counts.AssumedVerdicts (tally_of list).same (tally_of list).differs (tally_of list).unsettled is_equivalent n

-- what is assumed of the inputs of both programs: an expression over those of each, in order of declaration
abbrev pub assumed_in : Assumption → Drawing → Drawing → BothAssumed
assumed_in a p q = record { of_old = record { inputs = input_numbers p; expression = a.old }; of_new = record { inputs = input_numbers q; expression = a.new } }

-- Which states are asked for: all, or those in which it is so what stays so in each program from its fresh state on, in runs in which what is
-- assumed is true, where these alone are asked for.
abbrev pub AreAsked : Bool → BothAssumed → Drawing → Drawing → CountedStates → Type 0
AreAsked false a p q All = Unit {0}
AreAsked true a p q (Reachable old new) = IsStayingAssuming p a.of_old (fresh p) old × IsStayingAssuming q a.of_new (fresh q) new
AreAsked reachable a p q other = ⊥

-- Which states count: of these those in which what is assumed is true.
abbrev pub AreCountedAssuming : BothAssumed → Bool → Drawing → Drawing → Counted → Type 0
AreCountedAssuming a reachable p q c = AreAsked reachable a p q c.states × (assumed_of_both c.assumed ≡ a)

-- The text of what is found, and what is counted of it, by the states that count then.
pub record FindsAssuming (a : Assumption) (reachable : Bool) (p q : Drawing) (text : List ℕ) (c : Option ListCounts) : Type 0 where
  pub matching : Matching
  pub states : Counted
  pub verdicts : Verdicts
  pub names : IsByNames matching p q
  pub count : AreCountedAssuming (assumed_in a p q) reachable p q states
  pub judged : AreTrue (CountAssuming states) matching p q verdicts
  pub written : text ≡ findings_text p q (findings p q matching verdicts)
  pub counted : IfSome c (λ n. (is_equivalent : Bool) × (n ≡ counts_by a.expressions (findings p q matching verdicts) is_equivalent)
      × IsSaidOfRunsAssuming (assumed_in a p q) matching p q verdicts is_equivalent)

-- This is found where this is assumed, if something is.
abbrev pub FindsWhere : Option Assumption → Bool → Drawing → Drawing → Listing
FindsWhere None reachable p q text c = Finds reachable p q text c
FindsWhere (Some a) reachable p q text c = FindsAssuming a reachable p q text c

-- ---- what a request assumes

abbrev pub assumes_of : VerdictRequest → Assumes
assumes_of r = record { expressions = r.assumed.items; takes_comments = r.takes_comments }

-- The texts describe the two programs, and this is what is found where what the request assumes is true.
abbrev pub Judges : Given → Given → VerdictRequest → Listing
Judges g h r text c = (p q : Drawing) × HasProgram g.aliases g.program p × HasProgram h.aliases h.program q
    × (a : Option Assumption) × IsAssumedWhere g h (assumes_of r) p q a × FindsWhere a r.reachable p q text c

-- Status 0: what was found was written, and then the line of counts.
abbrev pub CountsVerdicts : Given → Given → VerdictRequest → WriteLog → WriteLog → (List ℕ → Type 0) → Type 0
CountsVerdicts g h r = Ends (Judges g h r) r.quiet

-- Status 1, by a writer that failed.
abbrev pub BreaksVerdicts : Given → Given → VerdictRequest → Logs → Logs → Type 0
BreaksVerdicts g h r = BreaksOff g (Judges g h r) r.quiet

-- A fault of the old text; of the new one, where the old one has none; or being out of memory.
abbrev pub HasTextFault : Given → Given → Option Side → ToolFault → Type 0
HasTextFault g h (Some Old) f = HasProgramFault g f
HasTextFault g h (Some New) f = (p : Drawing) × HasProgram g.aliases g.program p × HasProgramFault h f
HasTextFault g h None f = f ≡ fault.Memory

-- A fault of the texts, or then of what is assumed of the programs that these describe.
abbrev pub HasVerdictFault : Given → Given → VerdictRequest → Option Side → ToolFault → Type 0
HasVerdictFault g h r side f = HasTextFault g h side f
    ⊎ ((p q : Drawing) × HasProgram g.aliases g.program p × HasProgram h.aliases h.program q × HasAssumedFault side g h (assumes_of r) p q f)

-- Whether faults are explained, and aliases printed, is said by the request.
abbrev pub IsSaidBy : Given → VerdictRequest → Type 0
IsSaidBy g r = (g.why ≡ r.why) × (g.aliases ≡ r.aliases)

-- Status 1: a fault of the texts or of what is assumed, or a writer that failed.
abbrev pub FailsToJudge : Given → Given → VerdictRequest → Logs → Logs → Type 0
FailsToJudge g h r old new = RefusesOf g h (HasVerdictFault g h r) old new ⊎ BreaksVerdicts g h r old new

-- ---- private to the judging

-- what is assumed, as the calls take it
abbrev pub assumption_of : Option AssumedOfBoth → Option Assumption
assumption_of assumed = option_map (λ a. record { old = option_map (λ e. e.now) a.old; new = option_map (λ e. e.now) a.new; expressions = a.expressions }) assumed

-- what is assumed of the inputs, as the search takes it
abbrev pub assumed_where : Option Assumption → Drawing → Drawing → BothAssumed
assumed_where None p q = nothing_of_both
assumed_where (Some a) p q = assumed_in a p q

-- how many expressions are assumed
abbrev pub expressions_in : Option Assumption → ℕ
expressions_in None = 0
expressions_in (Some a) = a.expressions

-- What is said of equivalence: in all runs, or in those in which what is assumed is true.
abbrev pub IsSaidWhere : Option Assumption → Matching → Drawing → Drawing → Verdicts → Bool → Type 0
IsSaidWhere None m p q v is_equivalent = IsSaidOfRuns m p q v is_equivalent
IsSaidWhere (Some a) m p q v is_equivalent = IsSaidOfRunsAssuming (assumed_in a p q) m p q v is_equivalent

-- This is found, and these are the witnesses of its verdicts, by this matching, where they are kept.
abbrev pub FindsKept : Option Assumption → Bool → Bool → Drawing → Drawing → Matching → List Witness → Listing
FindsKept None keeps reachable p q m witnesses text c = (f : Finds reachable p q text c) × (f.matching ≡ m)
    × (keeps ≡ true → AreWitnesses (Count f.states) f.matching p q f.verdicts witnesses)
FindsKept (Some a) keeps reachable p q m witnesses text c = (f : FindsAssuming a reachable p q text c) × (f.matching ≡ m)
    × (keeps ≡ true → AreWitnesses (CountAssuming f.states) f.matching p q f.verdicts witnesses)

-- The same of these programs, where what the request assumes is true.
abbrev pub FindsAsked : Given → Given → VerdictRequest → Bool → Drawing → Drawing → Matching → List Witness → Listing
FindsAsked g h r keeps p q m witnesses text c =
    (a : Option Assumption) × IsAssumedWhere g h (assumes_of r) p q a × FindsKept a keeps r.reachable p q m witnesses text c

-- The text is that of the findings by these verdicts, and this is what is counted of it.
abbrev pub AreCounts : Option Assumption → Drawing → Drawing → Matching → Verdicts → ListCounts → Type 0
AreCounts a p q m v n = (is_equivalent : Bool) × (n ≡ counts_by (expressions_in a) (findings p q m v) is_equivalent) × IsSaidWhere a m p q v is_equivalent

-- What was found by these verdicts is written, whole or as far as the writer took it; or memory ran out, and nothing was written.
abbrev pub WritesJudged : Option Assumption → Drawing → Drawing → Matching → Verdicts → WriteLog → WriteLog → Result ListCounts ToolFault → Type 0
WritesJudged a p q m v out out' (Ok n) = PutsAll out out' (findings_text p q (findings p q m v)) × AreCounts a p q m v n
WritesJudged a p q m v out out' (Err f) = ((f ≡ fault.Memory) × (out' ≡ out)) ⊎ ((f ≡ fault.Write) × PutsPrefix out out' (findings_text p q (findings p q m v)))

-- The same of what is found of two programs.
abbrev pub FailsToWrite : Option Assumption → Bool → Drawing → Drawing → WriteLog → WriteLog → ToolFault → Type 0
FailsToWrite a reachable p q out out' f = ((f ≡ fault.Memory) × (out' ≡ out))
    ⊎ ((f ≡ fault.Write) × ((text : List ℕ) × FindsWhere a reachable p q text None × PutsPrefix out out' text))

abbrev pub WritesKept : Wanted → Drawing → Drawing → Matching → WriteLog → WriteLog → List Witness → ListCounts → Type 0
WritesKept w p q m out out' witnesses n = (text : List ℕ) × FindsKept (assumption_of w.assumed) w.keeps w.reachable p q m witnesses text (Some n) × PutsAll out out' text
