-- A simulation whose lines tell how far it is. They are recorded of the same scans as its rows, on a writer of their own.
use Rattle.std.specs.Prelude.{◌≡◌, ◌++◌, ◌+◌, ◌<◌, ◌%◌, ◌==◌, if◌then◌else◌, ℕ, zero, suc, Bool, true, false, List, [], Result, Ok, Err, codes, decimal}
use Rattle.diagram_program.specs.Program.{Drawing}
use Rattle.io_text.specs.Left.{Fields}
use Rattle.io_text.specs.Log.{PutsAll, WriteLog}
use Rattle.scan_cycle.specs.Standing.{Standing}
use Rattle.text_trace.specs.declared.column.Column.{Column}
use Rattle.text_trace.specs.declared.fault.SimFault.{SimFault}
use Rattle.text_trace.specs.declared.fault.SimFault.TheVariants as fault
use Rattle.text_trace.specs.declared.fault.WatchFault.{WatchFault}
use Rattle.text_trace.specs.declared.fault.WatchFault.TheVariants.{Lines, Sim}
use Rattle.text_trace.specs.Filled.{all_fields, filled}
use Rattle.text_trace.specs.Simulation.{Course, FollowsEvery, IsTaken, with_scans}
use Rattle.text_trace.specs.Trace.{Recorded, as_rows}

-- ---- the lines

-- `reached MOMENT`
abbrev pub reached_line : ℕ → List ℕ
reached_line moment = codes "reached " ++ (decimal moment ++ codes "\n")

-- The line after a scan that so many others precede, if it is one of each so many; 0: none is.
abbrev pub reached_piece : ℕ → ℕ → ℕ → List ℕ
reached_piece zero done moment = []
reached_piece (suc n) done moment = if (done + 1) % suc n == 0 then reached_line moment else []

-- What tells how far a simulation is that is recorded so: no first text, and a line after each so many scans.
abbrev pub as_reached : ℕ → Recorded → Recorded
as_reached each recorded = record {
  most = recorded.most;
  head = λ p s. [];
  Tells = λ p done s moment inputs piece. piece ≡ reached_piece each done moment;
}

-- After how many scans there is a line: none where nothing is told; fewer where each scan has a row than where those of changes have.
abbrev pub each_of : Bool → Bool → ℕ
each_of false changes = 0
each_of true false = 1000000
each_of true true = 10000000

-- ---- where the other writer failed

-- All that is recorded of the scans that lead to t was written.
abbrev pub WritesAll : Recorded → Drawing → Standing → List Fields → Standing → WriteLog → WriteLog → Type 0
WritesAll recorded p s rows t old new = (k : ℕ) × IsTaken recorded p s rows k t old new

-- So it was but for the last piece.
abbrev pub WritesBefore : Recorded → Drawing → Standing → List Fields → Standing → WriteLog → WriteLog → Type 0
WritesBefore recorded p s rows t old new = (k : ℕ) × (c : Course recorded p s rows k t) × PutsAll old new c.text

-- ---- the whole

-- How the lines end where the simulation does with a fault: where its row could not be written, the scan has no line.
abbrev pub LinesEnd : Recorded → ℕ → Drawing → Standing → List Fields → Standing → WriteLog → WriteLog → SimFault → Type 0
LinesEnd lines every p s rows t old new fault.Write = WritesBefore (with_scans every lines) p s (all_fields (filled every rows)) t old new
LinesEnd lines every p s rows t old new f = FollowsEvery lines every p s rows t old new (Err f)

-- So a simulation ends that is recorded so, with a line after each so many scans: its row is written before. Where a line could not be written,
-- the row of its scan was.
abbrev pub Reaches : Recorded → ℕ → ℕ → Drawing → Standing → List Fields → Standing → WriteLog → WriteLog → WriteLog → WriteLog → Result ℕ WatchFault → Type 0
Reaches recorded each every p s rows t out out' err err' (Ok n) =
    FollowsEvery recorded every p s rows t out out' (Ok n) × FollowsEvery (as_reached each recorded) every p s rows t err err' (Ok n)
Reaches recorded each every p s rows t out out' err err' (Err (Sim f)) =
    FollowsEvery recorded every p s rows t out out' (Err f) × LinesEnd (as_reached each recorded) every p s rows t err err' f
Reaches recorded each every p s rows t out out' err err' (Err Lines) =
    (0 < each) × WritesAll (with_scans every recorded) p s (all_fields (filled every rows)) t out out'
    × FollowsEvery (as_reached each recorded) every p s rows t err err' (Err fault.Write)

-- So a trace ends with these columns behind the outputs, of changes or whole, where lines tell how far it is or not.
abbrev pub WatchesTold : Bool → Bool → List Column → ℕ → Drawing → Standing → List Fields → Standing → WriteLog → WriteLog → WriteLog → WriteLog → Result ℕ WatchFault → Type 0
WatchesTold tells changes columns = Reaches (as_rows changes columns) (each_of tells changes)
