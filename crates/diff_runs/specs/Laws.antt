-- What is found of a program in which two stand side by side is so of the two.
use Rattle.std.specs.Prelude.{ℕ, Bool, true, false, List, Option, map, min}
use Rattle.st_expression.specs.declared.expression.Expression.{Expression}
use Rattle.diagram_program.specs.Program.{Drawing}
use Rattle.scan_cycle.specs.Runs.{OneScan}
use Rattle.assume_places.specs.Places.{IsJoint}
use Rattle.reach_runs.specs.Asking.{NeverOn, StaysOff, SwitchesOn}
use Rattle.diff_matching.specs.Matching.{Matching}
use Rattle.diff_matching.specs.Runs.{TwoScans}
use Rattle.diff_runs.specs.Asking.{AreIn, question}
use Rattle.diff_runs.specs.Assuming.{AreAssumed, Assumptions, nothing}
use Rattle.diff_runs.specs.Beside.{AreBeside}
use Rattle.diff_runs.specs.Pulling.{ArePlaces, pulled}
use Rattle.diff_runs.specs.Showing.{NeverShownAssuming, NotShownWithinAssuming, ShowsInRunAssuming}
use Rattle.diff_runs.specs.declared.symbols.TwoSymbols.{TwoSymbols}

-- What is assumed of the two programs is said of the inputs of the one in which they stand: there each input of theirs has a place, and the joint
-- expression is true just where both are true of the values at these places.
pub record AreJoined (a : Assumptions) (of_old of_new : Matching) (p q b : Drawing) (old_places new_places : List ℕ) (joint : Option Expression) : Type 0 where
  pub places_of_old : ArePlaces of_old p b old_places
  pub places_of_new : ArePlaces of_new q b new_places
  pub says_both : IsJoint a.old old_places a.new new_places joint

-- Where no run of it in which that is true ever leaves two symbols different, no runs of the two programs ever show a difference.
abbrev pub NeverShownWhereNeverOn : Drawing → Drawing → Drawing → Type 0
NeverShownWhereNeverOn p q b = (m of_old of_new : Matching) → AreBeside m of_old of_new p q b → (x there : TwoSymbols) → AreIn of_old of_new x there
    → (a : Assumptions) (old_places new_places : List ℕ) (joint : Option Expression) → AreJoined a of_old of_new p q b old_places new_places joint
    → NeverOn (question b there true joint) → NeverOn (question b there false joint) → NeverShownAssuming a m p q x

-- The same of runs of few scans: for each of the two questions so many are known not to.
abbrev pub NotShownWhereStaysOff : Drawing → Drawing → Drawing → Type 0
NotShownWhereStaysOff p q b = (m of_old of_new : Matching) → AreBeside m of_old of_new p q b → (x there : TwoSymbols) → AreIn of_old of_new x there
    → (a : Assumptions) (old_places new_places : List ℕ) (joint : Option Expression) → AreJoined a of_old of_new p q b old_places new_places joint
    → (on_most off_most : ℕ) → StaysOff (question b there true joint) on_most → StaysOff (question b there false joint) off_most
    → NotShownWithinAssuming a m p q x (min on_most off_most)

-- Where a run of it leaves them different, the runs that it has in it of the two programs show the difference.
abbrev pub ShownWhereSwitchedOn : Drawing → Drawing → Drawing → Type 0
ShownWhereSwitchedOn p q b = (m of_old of_new : Matching) → AreBeside m of_old of_new p q b → (x there : TwoSymbols) → AreIn of_old of_new x there
    → (a : Assumptions) (old_places new_places : List ℕ) (joint : Option Expression) → AreJoined a of_old of_new p q b old_places new_places joint
    → (value : Bool) (scans : List OneScan) → SwitchesOn (question b there value joint) scans
    → ShowsInRunAssuming a m p q x value (map (pulled old_places new_places) scans)

-- Where nothing is assumed it is true in any scans.
abbrev pub AreAssumedAlways : Drawing → Drawing → Type 0
AreAssumedAlways p q = (scans : List TwoScans) → AreAssumed p q nothing scans
