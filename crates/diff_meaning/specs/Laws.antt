-- What follows where one scan of each program leaves all that belongs together alike.
use Rattle.std.specs.Prelude.{◌≡◌, ℕ, List, map}
use Rattle.diagram_program.specs.Program.{Drawing}
use Rattle.scan_cycle.specs.Rung.{Held}
use Rattle.scan_cycle.specs.Standing.{Standing, fresh}
use Rattle.invariant_sets.specs.Invariants.{AreAllowed}
use Rattle.diff_matching.specs.Matching.{Agree, AreShared, Matching, scanned}
use Rattle.diff_matching.specs.Runs.{AgreeAfterEach, AreRuns, HaveNoInput, TwoScans, new_scan, old_scan}
use Rattle.diff_cases.specs.Assuming.{BothAssumed, assumed_of_both, nothing_of_both}
use Rattle.diff_meaning.specs.Counting.{Count, CountAssuming, StayFromFresh, StayFromFreshAssuming}
use Rattle.diff_meaning.specs.Verdicts.{AreAllSame, AreTrue}
use Rattle.diff_meaning.specs.Witnesses.{AreWitnesses}
use Rattle.diff_meaning.specs.declared.counted.Counted.{Counted}
use Rattle.diff_meaning.specs.declared.counted.CountedStates.{CountedStates}
use Rattle.diff_meaning.specs.declared.verdict.Verdicts.{Verdicts}
use Rattle.diff_meaning.specs.declared.witness.Witness.{Witness}

-- One scan of each, from any states that agree and count, leaves states that agree.
abbrev pub AreEquivalentWhere : (Held → Held → Type 0) → Matching → Drawing → Drawing → Type 0
AreEquivalentWhere Counts m p q = (moment : ℕ) (s t : Standing) → AreShared m p q moment s t → Counts s.held t.held
    → Agree m (scanned p moment s) (scanned q moment t)

-- The programs are equivalent.
abbrev pub EquivalentWhereSame : Drawing → Drawing → Type 0
EquivalentWhereSame p q = (c : CountedStates) (m : Matching) (verdicts : Verdicts) → AreTrue (Count c) m p q verdicts → AreAllSame verdicts
    → AreEquivalentWhere (Count c) m p q

-- They are where what is assumed is true.
abbrev pub EquivalentWhereSameAssuming : Drawing → Drawing → Type 0
EquivalentWhereSameAssuming p q = (c : Counted) (m : Matching) (verdicts : Verdicts) → AreTrue (CountAssuming c) m p q verdicts → AreAllSame verdicts
    → AreEquivalentWhere (CountAssuming c) m p q

-- Where the fresh states agree, and what makes a state count stays so from them on, the programs agree after each scan of any runs from there.
abbrev pub FreshRunsAgree : Drawing → Drawing → Type 0
FreshRunsAgree p q = (c : CountedStates) (m : Matching) (verdicts : Verdicts) → StayFromFresh c p q → AreTrue (Count c) m p q verdicts
    → AreAllSame verdicts → HaveNoInput m p q → Agree m (fresh p).held (fresh q).held → (scans : List TwoScans)
    → AreRuns m p q scans (fresh p) (fresh q) → AgreeAfterEach m p q scans (fresh p) (fresh q)

-- In each scan of a run of each program, from the fresh states on, what is assumed is true of the inputs as they are given.
pub record AreAsAssumed (a : BothAssumed) (p q : Drawing) (scans : List TwoScans) : Type 0 where
  pub of_old : AreAllowed p a.of_old (map old_scan scans) (fresh p).held
  pub of_new : AreAllowed q a.of_new (map new_scan scans) (fresh q).held

-- The programs agree after each scan of any such runs.
abbrev pub FreshRunsAgreeAssuming : Drawing → Drawing → Type 0
FreshRunsAgreeAssuming p q = (c : Counted) (m : Matching) (verdicts : Verdicts) → StayFromFreshAssuming (assumed_of_both c.assumed) c.states p q
    → AreTrue (CountAssuming c) m p q verdicts → AreAllSame verdicts → HaveNoInput m p q → Agree m (fresh p).held (fresh q).held
    → (scans : List TwoScans) → AreRuns m p q scans (fresh p) (fresh q) → AreAsAssumed (assumed_of_both c.assumed) p q scans
    → AgreeAfterEach m p q scans (fresh p) (fresh q)

-- ---- where nothing is assumed

-- Verdicts are true by the states that count, with no word of what is assumed.
abbrev pub AreTrueOfAll : Drawing → Drawing → Type 0
AreTrueOfAll p q = (c : Counted) (m : Matching) (verdicts : Verdicts) → assumed_of_both c.assumed ≡ nothing_of_both → AreTrue (CountAssuming c) m p q verdicts
    → AreTrue (Count c.states) m p q verdicts

-- Their witnesses are among these states.
abbrev pub AreWitnessesOfAll : Drawing → Drawing → Type 0
AreWitnessesOfAll p q = (c : Counted) (m : Matching) (verdicts : Verdicts) (witnesses : List Witness) → assumed_of_both c.assumed ≡ nothing_of_both
    → AreWitnesses (CountAssuming c) m p q verdicts witnesses → AreWitnesses (Count c.states) m p q verdicts witnesses
