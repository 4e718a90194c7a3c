-- The law of a simulation of the text of a run: it makes the scans of the run.
use Rattle.std.specs.Prelude.{◌≡◌, ◌∷◌, ◌++◌, ◌<◌, ◌≤◌, ℕ, All, List, [], Result, Ok, Err, length, take}
use Rattle.diagram_program.specs.Program.{Drawing}
use Rattle.io_text.specs.Left.{Fields}
use Rattle.io_text.specs.Log.{PutsAll, WriteLog}
use Rattle.io_text.specs.Text.{records_of}
use Rattle.reach_runs.specs.Asking.{AreEvery, AreTimed}
use Rattle.reach_runs.specs.declared.timing.Timing.{Timing}
use Rattle.scan_cycle.specs.Programs.{diagram_of}
use Rattle.scan_cycle.specs.Runs.{OneScan, after_each}
use Rattle.scan_cycle.specs.Standing.{Fits, Standing}
use Rattle.text_runs.specs.Laws.{IsScanOf, all_inputs}
use Rattle.text_runs.specs.RunText.{brief_text, run_text}
use Rattle.text_trace.specs.declared.column.Column.{Column}
use Rattle.text_trace.specs.declared.fault.SimFault.{SimFault}
use Rattle.text_trace.specs.declared.fault.SimFault.TheVariants as fault
use Rattle.text_trace.specs.declared.recording.Film.{Film}
use Rattle.text_trace.specs.Filled.{all_fields, filled}
use Rattle.text_trace.specs.Simulation.{Follows, Runs, as_film, as_waves, with_scans}
use Rattle.text_trace.specs.Trace.{Recorded, as_trace, as_watched, scanned, trace_header, trace_row}

-- the moment of the last scan, or this one where there is none
abbrev pub last_moment : ℕ → List OneScan → ℕ
last_moment moment [] = moment
last_moment moment (scan ∷ more) = last_moment scan.moment more

-- What these scans leave of a state.
abbrev pub left_by : Drawing → List OneScan → Standing → Standing
left_by p scans s = record { held = after_each (diagram_of p) scans s.held; kinds = s.kinds; moment = last_moment s.moment scans }

-- The rows of a trace from a state on: after each scan that of the state that it leads to.
abbrev pub trace_rows : Drawing → Standing → List OneScan → List ℕ
trace_rows p s [] = []
trace_rows p s (scan ∷ more) = let t = scanned p s scan.moment scan.inputs in trace_row p t ++ trace_rows p t more

-- A simulation of the scans that records so many at most has led from s to t, and ends so: all scans were made, or there are more of them,
-- or it got no memory, or its writer failed.
abbrev pub EndsWell : ℕ → Drawing → Standing → List OneScan → Standing → Result ℕ SimFault → Type 0
EndsWell most p s scans t (Ok n) = (n ≡ length scans) × (t ≡ left_by p scans s)
EndsWell most p s scans t (Err (fault.BadRow n)) = ⊥
EndsWell most p s scans t (Err (fault.UnknownName n)) = ⊥
EndsWell most p s scans t (Err (fault.MomentBack n)) = ⊥
EndsWell most p s scans t (Err (fault.TooLong n)) = most < length scans
EndsWell most p s scans t (Err fault.Write) = Unit {0}
EndsWell most p s scans t (Err fault.Memory) = Unit {0}

-- Where this is recorded, a simulation of the records from s makes the scans: the first n records lead to what the first n scans leave, and
-- none of them is a fault.
pub record MakesScans (recorded : Recorded) (p : Drawing) (s : Standing) (scans : List OneScan) (rows : List Fields) : Type 0 where
  pub leads : (columns : List ℕ) (n : ℕ) (text piece : List ℕ) (t : Standing) → Runs recorded p columns s rows n text piece t
      → (n ≤ length scans) × (t ≡ left_by p (take n scans) s)
  pub ends : (t : Standing) (old new : WriteLog) (end : Result ℕ SimFault) → Follows recorded p s rows t old new end → EndsWell recorded.most p s scans t end

-- So it is whatever is recorded, as many records as a simulation takes by the time between two scans. A trace has a row for each scan, of the
-- state after it; and the first n records do lead somewhere.
pub record IsSimulatedAs (p : Drawing) (s : Standing) (scans : List OneScan) (rows : List Fields) : Type 0 where
  pub trace : (every : ℕ) → MakesScans (with_scans every as_trace) p s scans rows
  pub watched : (every : ℕ) (columns : List Column) → MakesScans (with_scans every (as_watched columns)) p s scans rows
  pub film : (film : Film) → MakesScans (as_film film) p s scans rows
  pub waves : (every : ℕ) → MakesScans (with_scans every as_waves) p s scans rows
  pub written : (every : ℕ) (t : Standing) (old new : WriteLog) (n : ℕ) → Follows (with_scans every as_trace) p s rows t old new (Ok n)
      → PutsAll old new (trace_header p ++ trace_rows p s scans)
  pub runs : (every n : ℕ) → n ≤ length scans
      → (text : List ℕ) × (piece : List ℕ) × Runs (with_scans every as_trace) p (all_inputs p) s rows n text piece (left_by p (take n scans) s)

-- The text of scans that are in time, from the moment of a state on, is simulated from that state as these scans.
abbrev pub IsSimulated : Drawing → Type 0
IsSimulated p =
    (s : Standing) (timing : Timing) (from : ℕ) (scans : List OneScan) → Fits p s → s.moment ≤ from → AreTimed timing from scans → All (IsScanOf p) scans
    → IsSimulatedAs p s scans (records_of (run_text p scans))

-- So is the brief text of scans in a rhythm, with the scans between its records.
abbrev pub IsBriefSimulated : Drawing → Type 0
IsBriefSimulated p =
    (s : Standing) (every from : ℕ) (scans : List OneScan) → Fits p s → s.moment ≤ from → 0 < every → AreEvery every from scans → All (IsScanOf p) scans
    → IsSimulatedAs p s scans (all_fields (filled every (records_of (brief_text p scans))))
