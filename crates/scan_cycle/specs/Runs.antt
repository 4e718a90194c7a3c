-- Runs: scans one after the other, each at a moment and with inputs of its own.
use Rattle.std.specs.Prelude.{ℕ, ◌<◌, ◌≤◌, ◌^◌, Bool, List, [], ◌∷◌}
use Rattle.scan_cycle.specs.Cells.{Diagram}
use Rattle.scan_cycle.specs.Rung.{Held}
use Rattle.scan_cycle.specs.Scan.{after_scan}

-- The moment of a scan, and the values that it gives the inputs, in order of declaration.
pub record OneScan : Type 0 where
  pub moment : ℕ
  pub inputs : List Bool

-- Some scans are a run: from a first moment on their moments don't fall, and they have 64 bits.
abbrev pub IsRun : ℕ → List OneScan → Type 0
IsRun from [] = Unit {0}
IsRun from (scan ∷ more) = (from ≤ scan.moment) × (scan.moment < 2 ^ 64) × IsRun scan.moment more

-- What these scans leave, one after the other.
unfoldable pub after_each : Diagram → List OneScan → Held → Held
after_each d [] h = h
after_each d (scan ∷ more) h = after_each d more (after_scan d scan.moment scan.inputs h)
