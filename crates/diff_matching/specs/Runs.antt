-- Runs of two programs side by side: at each moment one scan of each.
use Rattle.std.specs.Prelude.{◌≡◌, ℕ, ◌≤◌, ◌<◌, ◌^◌, Bool, false, List, [], ◌∷◌, Some, slice_get, slice_index_or}
use Rattle.diagram_program.specs.Program.{Drawing}
use Rattle.scan_cycle.specs.Programs.{diagram_of}
use Rattle.scan_cycle.specs.Runs.{OneScan}
use Rattle.scan_cycle.specs.Scan.{after_scan, given}
use Rattle.scan_cycle.specs.Standing.{Fits, IsStanding, Standing, with_values}
use Rattle.diff_matching.specs.declared.matching.Pair.{Pair}
use Rattle.diff_matching.specs.Matching.{Agree, AgreeOnInputs, AreEquivalent, Matching}

-- The moment of both scans, and the values that each gives its inputs.
pub record TwoScans : Type 0 where
  pub moment : ℕ
  pub old : List Bool
  pub new : List Bool

-- the scan of OLD, and the scan of NEW
abbrev pub old_scan : TwoScans → OneScan
old_scan two = record { moment = two.moment; inputs = two.old }

abbrev pub new_scan : TwoScans → OneScan
new_scan two = record { moment = two.moment; inputs = two.new }

-- the state with these values of the inputs, before the scan
abbrev pub with_inputs : Drawing → List Bool → Standing → Standing
with_inputs p inputs s = with_values s (given (diagram_of p).inputs inputs s.held.values)

-- the state that the scan leaves
abbrev pub next : Drawing → ℕ → List Bool → Standing → Standing
next p moment inputs s = record s { held = after_scan (diagram_of p) moment inputs s.held; moment = moment }

-- From these states on the moments don't fall and have 64 bits, and inputs that belong together are given the same values.
unfoldable pub AreRuns : Matching → Drawing → Drawing → List TwoScans → Standing → Standing → Type 0
AreRuns m p q [] s t = Unit {0}
AreRuns m p q (scan ∷ more) s t = (s.moment ≤ scan.moment) × (t.moment ≤ scan.moment) × (scan.moment < 2 ^ 64)
    × AgreeOnInputs m (with_inputs p scan.old s).held (with_inputs q scan.new t).held
    × AreRuns m p q more (next p scan.moment scan.old s) (next q scan.moment scan.new t)

-- After each of the scans the states agree.
unfoldable pub AgreeAfterEach : Matching → Drawing → Drawing → List TwoScans → Standing → Standing → Type 0
AgreeAfterEach m p q [] s t = Unit {0}
AgreeAfterEach m p q (scan ∷ more) s t = Agree m (next p scan.moment scan.old s).held (next q scan.moment scan.new t).held
    × AgreeAfterEach m p q more (next p scan.moment scan.old s) (next q scan.moment scan.new t)

-- The pairs of variables are of no input.
abbrev pub HaveNoInput : Matching → Drawing → Drawing → Type 0
HaveNoInput m p q = (n : ℕ) (x : Pair) → slice_get m.variables n ≡ Some x
    → (slice_index_or (diagram_of p).inputs x.old false ≡ false) × (slice_index_or (diagram_of q).inputs x.new false ≡ false)

-- Equivalent programs agree for ever: from any states that agree, after each scan of any runs.
abbrev pub RunsAgree : Drawing → Drawing → Type 0
RunsAgree p q = (m : Matching) → HaveNoInput m p q → AreEquivalent m p q → (s t : Standing) → Fits p s → Fits q t → IsStanding s → IsStanding t
    → Agree m s.held t.held → (scans : List TwoScans) → AreRuns m p q scans s t → AgreeAfterEach m p q scans s t
