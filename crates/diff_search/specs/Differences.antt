-- What is told of a difference of two symbols in runs.
use Rattle.std.specs.Prelude.{◌≡◌, List, map}
use Rattle.diagram_program.specs.Program.{Drawing}
use Rattle.scan_cycle.specs.Standing.{fresh}
use Rattle.reach_runs.specs.Asking.{NeverOn, RunQuestion, StaysOff}
use Rattle.reach_search.specs.declared.seeking.Verdict.{Verdict}
use Rattle.reach_search.specs.declared.seeking.Verdict.TheVariants.{Run}
use Rattle.diff_matching.specs.Matching.{Matching}
use Rattle.diff_matching.specs.Runs.{TwoScans, new_scan, old_scan}
use Rattle.diff_runs.specs.Assuming.{AreAssumed, Assumptions, assumptions}
use Rattle.diff_runs.specs.Laws.{AreJoined}
use Rattle.diff_runs.specs.Pulling.{inputs_of}
use Rattle.diff_runs.specs.Showing.{NeverShown, NeverShownAssuming, NotShownWithin, NotShownWithinAssuming, ShowsInRun}
use Rattle.diff_runs.specs.declared.sides.Sides.{Sides}
use Rattle.diff_runs.specs.declared.symbols.TwoSymbols.{TwoSymbols}
use Rattle.diff_search.specs.declared.difference.RunDifference.{RunDifference}
use Rattle.diff_search.specs.declared.difference.RunDifference.TheVariants.{Never, Open, Shown}
use Rattle.diff_search.specs.declared.difference.TwoRuns.{TwoRuns}
use Rattle.diff_search.specs.declared.preparing.Prepared.{Prepared}

-- Runs of both that show the difference: the scans of OLD, and those of NEW.
pub record AreShowing (m : Matching) (p q : Drawing) (x : TwoSymbols) (runs : TwoRuns) : Type 0 where
  pub scans : List TwoScans
  pub shows : ShowsInRun m p q x runs.value scans
  pub of_old : runs.old.items ≡ map old_scan scans
  pub of_new : runs.new.items ≡ map new_scan scans

-- What is told of the symbols is so of the programs' runs.
abbrev pub IsTrueInRuns : Matching → Drawing → Drawing → TwoSymbols → RunDifference → Type 0
IsTrueInRuns m p q x (Shown runs) = AreShowing m p q x runs
IsTrueInRuns m p q x Never = NeverShown m p q x
IsTrueInRuns m p q x (Open scans) = NotShownWithin m p q x scans

-- Such runs, in each scan of which what is assumed is true.
pub record AreShowingAssuming (a : Assumptions) (m : Matching) (p q : Drawing) (x : TwoSymbols) (runs : TwoRuns) : Type 0 where
  pub showing : AreShowing m p q x runs
  pub assumed : AreAssumed p q a showing.scans

-- What is told is so of the runs in each scan of which it is true.
abbrev pub IsTrueInRunsAssuming : Assumptions → Matching → Drawing → Drawing → TwoSymbols → RunDifference → Type 0
IsTrueInRunsAssuming a m p q x (Shown runs) = AreShowingAssuming a m p q x runs
IsTrueInRunsAssuming a m p q x Never = NeverShownAssuming a m p q x
IsTrueInRunsAssuming a m p q x (Open scans) = NotShownWithinAssuming a m p q x scans

-- What each search reads of the program in which two stand.
pub record IsPrepared (b : Sides) (s : Prepared) : Type 0 where
  pub begun : s.begun ≡ fresh b.both.now
  pub inputs : s.inputs.items ≡ inputs_of b.both.now
  pub joined : AreJoined (assumptions b.assumed) b.of_old.now b.of_new.now b.old.now b.new.now b.both.now s.old_places.items s.new_places.items s.joint

-- ---- private: of two searches

-- A search found no run.
abbrev pub IsNoRun : Verdict → Type 0
IsNoRun (Run run) = ⊥
IsNoRun other = Unit {0}

-- What is told of both where neither found one.
abbrev pub AreBothOff : RunQuestion → RunQuestion → RunDifference → Type 0
AreBothOff p q (Shown runs) = ⊥
AreBothOff p q Never = NeverOn p × NeverOn q
AreBothOff p q (Open scans) = StaysOff p scans × StaysOff q scans
