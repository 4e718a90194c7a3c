-- Runs that show a difference of two programs: at each moment one scan of each, from the fresh states on.
use Rattle.std.specs.Prelude.{◌≡◌, ◌<◌, ◌≤◌, ℕ, Bool, Contains, List, length, map, not}
use Rattle.diagram_declarations.specs.declared.decls.Symbol.{Symbol}
use Rattle.diagram_declarations.specs.declared.decls.Symbol.TheVariants as symbol
use Rattle.diagram_program.specs.Program.{Drawing}
use Rattle.scan_cycle.specs.Programs.{diagram_of}
use Rattle.scan_cycle.specs.Rung.{Held}
use Rattle.scan_cycle.specs.Runs.{OneScan, after_each}
use Rattle.scan_cycle.specs.Standing.{fresh}
use Rattle.invariant_cases.specs.Allowing.{is_on_in}
use Rattle.invariant_cases.specs.Cases.{point_of}
use Rattle.diff_matching.specs.Matching.{Matching}
use Rattle.diff_matching.specs.Runs.{AreRuns, TwoScans, new_scan, old_scan}
use Rattle.diff_runs.specs.Assuming.{AreAssumed, Assumptions}
use Rattle.diff_runs.specs.declared.symbols.TwoSymbols.{TwoSymbols}

-- The one and the other belong together.
abbrev pub BelongTogether : Matching → Symbol → Symbol → Type 0
BelongTogether m (symbol.Var a) (symbol.Var b) = Contains m.variables (record { old = a; new = b })
BelongTogether m (symbol.Instance a) (symbol.Instance b) = Contains m.instances (record { old = a; new = b })
BelongTogether m a b = ⊥

-- Whether a symbol is ON in a state.
abbrev pub is_on : Symbol → Held → Bool
is_on symbol h = is_on_in (point_of symbol) h

-- what scans of a program leave, from its fresh state on
abbrev pub left_by : Drawing → List OneScan → Held
left_by p scans = after_each (diagram_of p) scans (fresh p).held

-- The runs show a difference: after the last scan the symbol of OLD is ON and the one of NEW is OFF, or the other way for the value OFF.
pub record ShowsInRun (m : Matching) (p q : Drawing) (x : TwoSymbols) (value : Bool) (scans : List TwoScans) : Type 0 where
  pub some : 0 < length scans
  pub runs : AreRuns m p q scans (fresh p) (fresh q)
  pub of_old : is_on x.old (left_by p (map old_scan scans)) ≡ value
  pub of_new : is_on x.new (left_by q (map new_scan scans)) ≡ not value

-- They are alike after the last scan.
abbrev pub AreAlikeAfter : Drawing → Drawing → TwoSymbols → List TwoScans → Type 0
AreAlikeAfter p q x scans = is_on x.old (left_by p (map old_scan scans)) ≡ is_on x.new (left_by q (map new_scan scans))

-- No runs ever show a difference.
abbrev pub NeverShown : Matching → Drawing → Drawing → TwoSymbols → Type 0
NeverShown m p q x = (scans : List TwoScans) → 0 < length scans → AreRuns m p q scans (fresh p) (fresh q) → AreAlikeAfter p q x scans

-- No runs of at most so many scans do.
abbrev pub NotShownWithin : Matching → Drawing → Drawing → TwoSymbols → ℕ → Type 0
NotShownWithin m p q x most = (scans : List TwoScans) → 0 < length scans → length scans ≤ most → AreRuns m p q scans (fresh p) (fresh q)
    → AreAlikeAfter p q x scans

-- ---- where something is assumed

-- The runs show a difference, and in each scan what is assumed is true.
pub record ShowsInRunAssuming (a : Assumptions) (m : Matching) (p q : Drawing) (x : TwoSymbols) (value : Bool) (scans : List TwoScans) : Type 0 where
  pub shows : ShowsInRun m p q x value scans
  pub assumed : AreAssumed p q a scans

-- No runs in each scan of which it is true ever show a difference.
abbrev pub NeverShownAssuming : Assumptions → Matching → Drawing → Drawing → TwoSymbols → Type 0
NeverShownAssuming a m p q x = (scans : List TwoScans) → 0 < length scans → AreRuns m p q scans (fresh p) (fresh q) → AreAssumed p q a scans
    → AreAlikeAfter p q x scans

-- No such runs of at most so many scans do.
abbrev pub NotShownWithinAssuming : Assumptions → Matching → Drawing → Drawing → TwoSymbols → ℕ → Type 0
NotShownWithinAssuming a m p q x most = (scans : List TwoScans) → 0 < length scans → length scans ≤ most → AreRuns m p q scans (fresh p) (fresh q)
    → AreAssumed p q a scans → AreAlikeAfter p q x scans
