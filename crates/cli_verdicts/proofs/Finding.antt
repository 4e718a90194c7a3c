-- What is found, written whole or in part, and how the judging ends by it.
use Rattle.std.proofs.Common.{◌≡◌, ◌∙◌, ◌∷◌, Bool, Err, IfSome, List, [], None, Ok, Option, Some, ap, false, inl, inr, map, refl, subst, sym, true}
use Rattle.diagram_program.specs.Program.{Drawing}
use Rattle.scan_cycle.specs.Programs.{diagram_of}
use Rattle.scan_cycle.specs.Rung.{Held}
use Rattle.scan_cycle.specs.Runs.{OneScan}
use Rattle.scan_cycle.specs.Scan.{after_scan}
use Rattle.scan_cycle.specs.Standing.{fresh}
use Rattle.invariant_runs.specs.Staying.{IsStayingOf}
use Rattle.invariant_cases.specs.Assuming.{Assumed, nothing}
use Rattle.invariant_sets.specs.Invariants.{AreAllowed, IsStayingAssuming}
use Rattle.invariant_sets.specs.declared.staying.Staying.{Staying}
use Rattle.diff_matching.specs.Matching.{Matching}
use Rattle.diff_matching.specs.Names.{IsByNames}
use Rattle.diff_matching.specs.Runs.{new_scan, old_scan}
use Rattle.diff_cases.specs.Assuming.{BothAssumed, assumed_of_both, nothing_of_both}
use Rattle.diff_meaning.specs.Counting.{AreOfPrograms, CountAssuming, StayFromFreshAssuming}
use Rattle.diff_meaning.specs.Laws.{AreTrueOfAll, AreWitnessesOfAll}
use Rattle.diff_meaning.specs.Verdicts.{AreTrue}
use Rattle.diff_meaning.specs.Witnesses.{AreWitnesses}
use Rattle.diff_meaning.specs.declared.counted.Counted.{Counted}
use Rattle.diff_meaning.specs.declared.counted.CountedStates.{CountedStates}
use Rattle.diff_meaning.specs.declared.counted.CountedStates.TheVariants.{All, Reachable}
use Rattle.diff_meaning.specs.declared.verdict.Verdicts.{Verdicts}
use Rattle.diff_meaning.specs.declared.witness.Witness.{Witness}
use Rattle.diff_findings.specs.Equivalence.{IsSaidOfRuns, IsSaidOfRunsAssuming}
use Rattle.diff_findings.specs.Findings.{findings}
use Rattle.diff_findings.specs.declared.finding.Finding.{Finding}
use Rattle.text_findings.specs.FindingText.{findings_text}
use Rattle.io_text.specs.Log.{PutsAll, WriteLog}
use Rattle.cli_inputs.specs.declared.fault.ToolFault.{ToolFault}
use Rattle.cli_questions.specs.declared.counting.ListCounts.{ListCounts}
use Rattle.cli_diff.specs.Assumed.{Assumption}
use Rattle.cli_verdicts.specs.Ending.{AreAsked, AreCounted, AreCountedAssuming, AreCounts, FailsToWrite, Finds, FindsAssuming, FindsKept, FindsWhere, IsSaidWhere, WritesJudged, WritesKept, assumed_in, assumed_where, assumption_of, counts_by, expressions_in}
use Rattle.cli_verdicts.specs.declared.writing.Wanted.{Wanted}

-- ---- which states count

staying_of : (p : Drawing) (a : Assumed) (staying : Staying) → IsStayingAssuming p a (fresh p) staying → IsStayingOf p staying
staying_of p a staying is = record { set = is.steady.set; apart = is.apart.outside }

said_of : (reachable : Bool) (a : BothAssumed) (p q : Drawing) (c : CountedStates) → AreAsked reachable a p q c → AreOfPrograms c p q
said_of false a p q All asked = tt
said_of true a p q (Reachable old new) asked = (staying_of p a.of_old old asked.0, staying_of q a.of_new new asked.1)
said_of true a p q All none = absurd none
said_of false a p q (Reachable old new) none = absurd none

stay_among : (reachable : Bool) (a : BothAssumed) (p q : Drawing) (c : CountedStates) → AreAsked reachable a p q c → StayFromFreshAssuming a c p q
stay_among false a p q All asked = tt
stay_among true a p q (Reachable old new) asked = asked
stay_among true a p q All none = absurd none
stay_among false a p q (Reachable old new) none = absurd none

pub of_programs : (a : BothAssumed) (reachable : Bool) (p q : Drawing) (c : Counted) → AreCountedAssuming a reachable p q c → AreOfPrograms c.states p q
of_programs a reachable p q c count = said_of reachable a p q c.states count.0

pub from_fresh : (a : BothAssumed) (reachable : Bool) (p q : Drawing) (c : Counted) → AreCountedAssuming a reachable p q c
    → StayFromFreshAssuming (assumed_of_both c.assumed) c.states p q
from_fresh a reachable p q c count =
    subst (λ (b : BothAssumed). StayFromFreshAssuming b c.states p q) (sym count.1) (stay_among reachable a p q c.states count.0)

-- What is asked for counts, by what is assumed.
pub counted_so : (a b : BothAssumed) (reachable : Bool) (p q : Drawing) (c : Counted) → b ≡ a → AreAsked reachable b p q c.states
    → assumed_of_both c.assumed ≡ b → AreCountedAssuming a reachable p q c
counted_so a b reachable p q c is asked same = (subst (λ (x : BothAssumed). AreAsked reachable x p q c.states) is asked, same ∙ is)

-- Where nothing is assumed these are the states that count then.
asked_of_all : (reachable : Bool) (p q : Drawing) (c : CountedStates) → AreAsked reachable nothing_of_both p q c → AreCounted reachable p q c
asked_of_all false p q All asked = tt
asked_of_all true p q (Reachable old new) asked = asked
asked_of_all true p q All none = absurd none
asked_of_all false p q (Reachable old new) none = absurd none

-- ---- what is said of runs

-- Where nothing is assumed any scans are allowed.
all_allowed : (p : Drawing) (scans : List OneScan) (h : Held) → AreAllowed p nothing scans h
all_allowed p [] h = tt
all_allowed p (scan ∷ more) h = (refl, all_allowed p more (after_scan (diagram_of p) scan.moment scan.inputs h))

said_of_all : (m : Matching) (p q : Drawing) (v : Verdicts) (is_equivalent : Bool) → IsSaidOfRunsAssuming nothing_of_both m p q v is_equivalent
    → IsSaidOfRuns m p q v is_equivalent
said_of_all m p q v true said = (
  said.0,
  said.1,
  said.2,
  λ scans runs. said.3 scans runs (record { of_old = all_allowed p (map old_scan scans) (fresh p).held; of_new = all_allowed q (map new_scan scans) (fresh q).held }),
)
said_of_all m p q v false said = said

pub said_where : (a : Option Assumption) (b : BothAssumed) (m : Matching) (p q : Drawing) (v : Verdicts) (is_equivalent : Bool) → b ≡ assumed_where a p q
    → IsSaidOfRunsAssuming b m p q v is_equivalent → IsSaidWhere a m p q v is_equivalent
said_where None b m p q v is_equivalent is said =
    said_of_all m p q v is_equivalent (subst (λ (x : BothAssumed). IsSaidOfRunsAssuming x m p q v is_equivalent) is said)
said_where (Some a) b m p q v is_equivalent is said = subst (λ (x : BothAssumed). IsSaidOfRunsAssuming x m p q v is_equivalent) is said

-- ---- what is written

module _ (a : Option Assumption) (p q : Drawing) (m : Matching) (v : Verdicts) (list : List Finding) (o o' : WriteLog) (same : list ≡ findings p q m v) where
  pub listed : (is_equivalent : Bool) (n : ListCounts) → IsSaidWhere a m p q v is_equivalent → n ≡ counts_by (expressions_in a) list is_equivalent
      → PutsAll o o' (findings_text p q list) → WritesJudged a p q m v o o' (Ok n)
  listed is_equivalent n said counted put = (
    subst (λ (l : List Finding). PutsAll o o' (findings_text p q l)) same put,
    (is_equivalent, counted ∙ ap (λ (l : List Finding). counts_by (expressions_in a) l is_equivalent) same, said),
  )

module _ (p q : Drawing) (m : Matching) (c : Counted) (v : Verdicts) (names : IsByNames m p q) (judged : AreTrue (CountAssuming c) m p q v)
    (true_of_all : AreTrueOfAll p q) where
  -- What is found where nothing is assumed.
  found_of_all : (reachable : Bool) (n : Option ListCounts) → AreCountedAssuming nothing_of_both reachable p q c
      → IfSome n (λ k. AreCounts None p q m v k) → Finds reachable p q (findings_text p q (findings p q m v)) n
  found_of_all reachable n count counts = record {
    matching = m;
    states = c.states;
    verdicts = v;
    names = names;
    count = asked_of_all reachable p q c.states count.0;
    judged = true_of_all c m v count.1 judged;
    written = refl;
    counted = counts;
  }

  found_assuming : (a : Assumption) (reachable : Bool) (n : Option ListCounts) → AreCountedAssuming (assumed_in a p q) reachable p q c
      → IfSome n (λ k. AreCounts (Some a) p q m v k) → FindsAssuming a reachable p q (findings_text p q (findings p q m v)) n
  found_assuming a reachable n count counts =
      record { matching = m; states = c; verdicts = v; names = names; count = count; judged = judged; written = refl; counted = counts }

  found_where : (a : Option Assumption) (reachable : Bool) → AreCountedAssuming (assumed_where a p q) reachable p q c
      → FindsWhere a reachable p q (findings_text p q (findings p q m v)) None
  found_where None reachable count = found_of_all reachable None count tt
  found_where (Some a) reachable count = found_assuming a reachable None count tt

  found_kept : AreWitnessesOfAll p q → (a : Option Assumption) (keeps reachable : Bool) (witnesses : List Witness) (n : ListCounts)
      → AreCountedAssuming (assumed_where a p q) reachable p q c → (keeps ≡ true → AreWitnesses (CountAssuming c) m p q v witnesses) → AreCounts a p q m v n
      → FindsKept a keeps reachable p q m witnesses (findings_text p q (findings p q m v)) (Some n)
  unfolding found_of_all found_assuming
  found_kept of_all None keeps reachable witnesses n count kept counts =
      (found_of_all reachable (Some n) count counts, refl, λ keep. of_all c m v witnesses count.1 (kept keep))
  found_kept of_all (Some a) keeps reachable witnesses n count kept counts = (found_assuming a reachable (Some n) count counts, refl, kept)

  module _ (w : Wanted) (o o' : WriteLog) (count : AreCountedAssuming (assumed_where (assumption_of w.assumed) p q) w.reachable p q c) where
    pub found_all : AreWitnessesOfAll p q → (witnesses : List Witness) (n : ListCounts) → (w.keeps ≡ true → AreWitnesses (CountAssuming c) m p q v witnesses)
        → WritesJudged (assumption_of w.assumed) p q m v o o' (Ok n) → WritesKept w p q m o o' witnesses n
    found_all of_all witnesses n kept written = (
      findings_text p q (findings p q m v),
      found_kept of_all (assumption_of w.assumed) w.keeps w.reachable witnesses n count kept written.1,
      written.0,
    )

    pub found_some : (f : ToolFault) → WritesJudged (assumption_of w.assumed) p q m v o o' (Err f) → FailsToWrite (assumption_of w.assumed) w.reachable p q o o' f
    found_some f (inl h) = inl h
    found_some f (inr h) = inr (h.0, (findings_text p q (findings p q m v), found_where (assumption_of w.assumed) w.reachable count, h.1))
