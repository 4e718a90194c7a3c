-- What is told of two programs over runs from their fresh states, name by name.
use Rattle.std.specs.Prelude.{◌≡◌, ℕ, Bool, List, Some, length, map, not, slice_get}
use Rattle.diagram_declarations.specs.declared.decls.Symbol.TheVariants as symbol
use Rattle.diagram_program.specs.Program.{Drawing}
use Rattle.diff_matching.specs.declared.matching.Pair.{Pair}
use Rattle.diff_matching.specs.Matching.{Matching}
use Rattle.diff_matching.specs.Runs.{TwoScans}
use Rattle.diff_meaning.specs.declared.verdict.Verdict.{Verdict}
use Rattle.diff_meaning.specs.declared.verdict.Verdict.TheVariants.{Same, Differs, Unsettled}
use Rattle.diff_meaning.specs.declared.verdict.Verdicts.{Verdicts}
use Rattle.diff_runs.specs.Assuming.{Assumptions}
use Rattle.diff_runs.specs.Showing.{NeverShown, NeverShownAssuming, ShowsInRun, ShowsInRunAssuming}
use Rattle.diff_runs.specs.declared.symbols.TwoSymbols.{TwoSymbols}
use Rattle.diff_search.specs.Differences.{IsTrueInRuns, IsTrueInRunsAssuming}
use Rattle.diff_search.specs.declared.difference.RunDifference.{RunDifference}
use Rattle.diff_run_verdicts.specs.declared.findings.RunFindings.{RunFindings}
use Rattle.diff_run_verdicts.specs.declared.names.NameSort.{NameSort}
use Rattle.diff_run_verdicts.specs.declared.names.NameSort.TheVariants.{Variables, Instances}

-- the pairs of a sort, and the symbols that one of them names
abbrev pub pairs_of : NameSort → Matching → List Pair
pairs_of Variables m = m.variables
pairs_of Instances m = m.instances

abbrev pub symbols_of : NameSort → Pair → TwoSymbols
symbols_of Variables x = record { old = symbol.Var x.old; new = symbol.Var x.new }
symbols_of Instances x = record { old = symbol.Instance x.old; new = symbol.Instance x.new }

-- There are as many as pairs of the sort, in the order of the matching, and each is so of the symbols of its pair.
pub record AreOfPairs {T : Type 0} (Is : TwoSymbols → T → Type 0) (m : Matching) (sort : NameSort) (list : List T) : Type 0 where
  pub as_many : length list ≡ length (pairs_of sort m)
  pub each : (n : ℕ) (x : Pair) (item : T) → slice_get (pairs_of sort m) n ≡ Some x → slice_get list n ≡ Some item → Is (symbols_of sort x) item

-- Verdicts, each so of the symbols of its name. Edges have none: of each of them it is told that it is the same, for which no row stands.
pub record AreOfNames (Is : TwoSymbols → Verdict → Type 0) (m : Matching) (verdicts : Verdicts) : Type 0 where
  pub variables : AreOfPairs Is m Variables verdicts.variables.items
  pub instances : AreOfPairs Is m Instances verdicts.instances.items
  pub memories : verdicts.memories.items ≡ map (λ x. Same) m.memories

-- What was found, each so of the symbols of its name.
pub record AreFoundOfNames (Is : TwoSymbols → RunDifference → Type 0) (m : Matching) (findings : RunFindings) : Type 0 where
  pub variables : AreOfPairs Is m Variables findings.variables.items
  pub instances : AreOfPairs Is m Instances findings.instances.items

-- ---- verdicts

-- Some runs show that the symbols differ: after the last of their scans the one of OLD has this value, and the one of NEW the other.
abbrev pub SomeRunsShow : Matching → Drawing → Drawing → TwoSymbols → Bool → Type 0
SomeRunsShow m p q x value = (scans : List TwoScans) × ShowsInRun m p q x value scans

-- The verdict is true of two symbols in runs: no runs ever show a difference, or some do, with these values. Where it isn't settled nothing is
-- said.
abbrev pub IsTrueOfRuns : Matching → Drawing → Drawing → TwoSymbols → Verdict → Type 0
IsTrueOfRuns m p q x Same = NeverShown m p q x
IsTrueOfRuns m p q x (Differs a b) = (b ≡ not a) × SomeRunsShow m p q x a
IsTrueOfRuns m p q x Unsettled = Unit {0}

-- The verdicts are true of all names.
abbrev pub AreTrueOfRuns : Matching → Drawing → Drawing → Verdicts → Type 0
AreTrueOfRuns m p q verdicts = AreOfNames (IsTrueOfRuns m p q) m verdicts

-- What was found of all names is true.
abbrev pub AreFound : Matching → Drawing → Drawing → RunFindings → Type 0
AreFound m p q findings = AreFoundOfNames (IsTrueInRuns m p q) m findings

-- ---- where something is assumed: the same of runs in each scan of which it is true

abbrev pub SomeRunsShowAssuming : Assumptions → Matching → Drawing → Drawing → TwoSymbols → Bool → Type 0
SomeRunsShowAssuming a m p q x value = (scans : List TwoScans) × ShowsInRunAssuming a m p q x value scans

abbrev pub IsTrueOfRunsAssuming : Assumptions → Matching → Drawing → Drawing → TwoSymbols → Verdict → Type 0
IsTrueOfRunsAssuming a m p q x Same = NeverShownAssuming a m p q x
IsTrueOfRunsAssuming a m p q x (Differs old new) = (new ≡ not old) × SomeRunsShowAssuming a m p q x old
IsTrueOfRunsAssuming a m p q x Unsettled = Unit {0}

abbrev pub AreTrueOfRunsAssuming : Assumptions → Matching → Drawing → Drawing → Verdicts → Type 0
AreTrueOfRunsAssuming a m p q verdicts = AreOfNames (IsTrueOfRunsAssuming a m p q) m verdicts

abbrev pub AreFoundAssuming : Assumptions → Matching → Drawing → Drawing → RunFindings → Type 0
AreFoundAssuming a m p q findings = AreFoundOfNames (IsTrueInRunsAssuming a m p q) m findings
