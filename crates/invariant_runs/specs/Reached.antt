-- What stays so in each state that a run reaches.
use Rattle.std.specs.Prelude.{List, [], ◌∷◌}
use Rattle.diagram_program.specs.Program.{Drawing}
use Rattle.scan_cycle.specs.Programs.{diagram_of}
use Rattle.scan_cycle.specs.Runs.{IsRun, OneScan}
use Rattle.scan_cycle.specs.Scan.{after_scan}
use Rattle.scan_cycle.specs.Standing.{Standing, Fits, IsStanding}
use Rattle.invariant_cases.specs.Assuming.{Assumed}
use Rattle.invariant_sets.specs.Invariants.{AreAllowed, IsStaying, IsStayingAssuming}
use Rattle.invariant_runs.specs.Staying.{StaysSo}
use Rattle.invariant_sets.specs.declared.staying.Staying.{Staying}

-- The state that these scans leave, one after the other.
abbrev pub reached : Drawing → List OneScan → Standing → Standing
reached p [] s = s
reached p (scan ∷ more) s = reached p more (record s { held = after_scan (diagram_of p) scan.moment scan.inputs s.held; moment = scan.moment })

-- Each state that a run from this one reaches is a state of the program, in which it is so what stays so.
pub record IsReached (p : Drawing) (staying : Staying) (s : Standing) : Type 0 where
  pub fits : Fits p s
  pub standing : IsStanding s
  pub stays : StaysSo staying s.held

abbrev pub AreReached : Drawing → Standing → Staying → Type 0
AreReached p s staying = (scans : List OneScan) → IsRun s.moment scans → IsReached p staying (reached p scans s)

-- What stays so from this state on is so in each state that a run reaches.
abbrev pub RunsStay : Drawing → Type 0
RunsStay p = (s : Standing) → Fits p s → IsStanding s → (staying : Staying) → IsStaying p s staying → AreReached p s staying

-- ---- in runs in which what is assumed of the inputs is true

abbrev pub AreReachedAssuming : Drawing → Assumed → Standing → Staying → Type 0
AreReachedAssuming p a s staying = (scans : List OneScan) → IsRun s.moment scans → AreAllowed p a scans s.held → IsReached p staying (reached p scans s)

abbrev pub RunsStayAssuming : Drawing → Type 0
RunsStayAssuming p = (a : Assumed) (s : Standing) → Fits p s → IsStanding s → (staying : Staying) → IsStayingAssuming p a s staying → AreReachedAssuming p a s staying
