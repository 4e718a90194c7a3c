-- The law of witnesses: each row that tells a difference has one.
use Rattle.std.specs.Prelude.{◌≡◌, Bool, Contains, List}
use Rattle.diagram_program.specs.Program.{Drawing}
use Rattle.scan_cycle.specs.Rung.{Held}
use Rattle.diff_matching.specs.Matching.{Matching}
use Rattle.diff_meaning.specs.Counting.{Count, CountAssuming}
use Rattle.diff_meaning.specs.Verdicts.{Shows}
use Rattle.diff_meaning.specs.Witnesses.{AreWitnesses}
use Rattle.diff_meaning.specs.declared.counted.Counted.{Counted}
use Rattle.diff_meaning.specs.declared.counted.CountedStates.{CountedStates}
use Rattle.diff_meaning.specs.declared.verdict.Verdict.TheVariants.{Differs}
use Rattle.diff_meaning.specs.declared.verdict.Verdicts.{Verdicts}
use Rattle.diff_meaning.specs.declared.witness.Witness.{Witness}
use Rattle.diff_findings.specs.Findings.{findings}
use Rattle.diff_findings.specs.declared.finding.Finding.{Finding}
use Rattle.diff_findings.specs.declared.finding.Remark.TheVariants.{Judged}
use Rattle.diff_findings.specs.declared.finding.Subject.{Subject}
use Rattle.cli_witnesses.specs.Naming.{subject_of}

-- One of the witnesses is of what the row is about, and its states show these values.
pub record IsShown (Counts : Held → Held → Type 0) (m : Matching) (p q : Drawing) (witnesses : List Witness) (subject : Subject) (a b : Bool) : Type 0 where
  pub witness : Witness
  pub among : Contains witnesses witness
  pub about : subject_of witness.target ≡ subject
  pub shows : Shows Counts m p q witness.target witness.old_state witness.new_state a b

-- Each row that says that something differs is shown by one of the witnesses of the verdicts.
abbrev pub AreRowsShownBy : (Held → Held → Type 0) → Drawing → Drawing → Type 0
AreRowsShownBy Counts p q = (m : Matching) (verdicts : Verdicts) (witnesses : List Witness) → AreWitnesses Counts m p q verdicts witnesses
    → (f : Finding) → Contains (findings p q m verdicts) f → (a b : Bool) → f.remark ≡ Judged (Differs a b) → IsShown Counts m p q witnesses f.subject a b

abbrev pub AreRowsShown : Drawing → Drawing → Type 0
AreRowsShown p q = (c : CountedStates) → AreRowsShownBy (Count c) p q

-- The same where something is assumed.
abbrev pub AreRowsShownAssuming : Drawing → Drawing → Type 0
AreRowsShownAssuming p q = (c : Counted) → AreRowsShownBy (CountAssuming c) p q
