-- Private to the simulation: what its inner functions do with the header and with one record.
use Rattle.std.specs.Prelude.{◌≡◌, ◌<◌, ◌≤◌, ◌++◌, ◌∷◌, ◌+◌, ℕ, Bool, List, Result, Ok, Err, drop}
use Rattle.diagram_declarations.specs.Decls.{Declared}
use Rattle.diagram_program.specs.Program.{Drawing}
use Rattle.diagram_reader.specs.Reading.{IsProgram}
use Rattle.diagram_reader.specs.Titled.{without_aliases}
use Rattle.io_text.specs.Left.{Fields}
use Rattle.scan_cycle.specs.Standing.{Standing}
use Rattle.io_text.specs.Log.{PutsAll, PutsPrefix, WriteLog}
use Rattle.text_trace.specs.declared.fault.SimFault.{SimFault}
use Rattle.text_trace.specs.declared.fault.SimFault.TheVariants as fault
use Rattle.text_trace.specs.declared.fault.WatchFault.{WatchFault}
use Rattle.text_trace.specs.declared.fault.WatchFault.TheVariants.{Lines, Sim}
use Rattle.text_trace.specs.declared.recording.Recording.{Recording}
use Rattle.text_trace.specs.declared.recording.Recording.TheVariants as recordings
use Rattle.text_trace.specs.declared.filling.Filling.{Filling}
use Rattle.text_trace.specs.declared.simulation.Run.{Run}
use Rattle.text_trace.specs.Coming.{Comes}
use Rattle.text_trace.specs.Filled.{Numbered, all_fields, told_of}
use Rattle.text_trace.specs.Simulation.{Follows, GoesBack, HasUnknownName, IsBadHeader, IsNoRow, IsUntouched, Runs, as_film, as_waves, with_scans}
use Rattle.text_trace.specs.Reached.{WritesAll, WritesBefore, as_reached}
use Rattle.text_trace.specs.Trace.{IsStep, Recorded, as_changes, as_trace, as_watched, scanned}

-- What is recorded, as it was asked for.
abbrev pub as_asked : Recording → Recorded
as_asked recordings.Trace = as_trace
as_asked (recordings.Watched columns) = as_watched columns.now
as_asked (recordings.Changes columns) = as_changes columns.now
as_asked (recordings.Film film) = as_film film
as_asked recordings.Waves = as_waves

-- The same of a run, which may have scans between the records.
abbrev pub as_run : Run → Recorded
as_run run = with_scans run.every (as_asked run.recording)

-- What its lines tell.
abbrev pub as_lines : Run → Recorded
as_lines run = as_reached run.lines (as_run run)

-- A film needs the text of the program.
abbrev pub CanRecord : Recording → Drawing → Type 0
CanRecord recordings.Trace p = Unit {0}
CanRecord (recordings.Watched columns) p = Unit {0}
CanRecord (recordings.Changes columns) p = Unit {0}
CanRecord (recordings.Film film) p = IsProgram film.text.now (without_aliases p)
CanRecord recordings.Waves p = Unit {0}

-- One scan after so many others, at a moment, with these inputs, leads from s to t, and the piece tells of it.
pub record IsScan (recorded : Recorded) (p : Drawing) (done : ℕ) (s : Standing) (moment : ℕ) (inputs : List Bool) (t : Standing) (piece : List ℕ) : Type 0 where
  pub later : s.moment ≤ moment
  pub after : t ≡ scanned p s moment inputs
  pub told : recorded.Tells p done s moment inputs piece

-- So it was for the record of this number, and the piece was written, or this fault kept it from that.
abbrev pub ScansTo : {T : Type 0} → Recorded → Drawing → ℕ → ℕ → Standing → ℕ → List Bool → Standing → WriteLog → WriteLog → Result T SimFault → Type 0
ScansTo recorded p done number s moment inputs t old new (Ok u) = (piece : List ℕ) × IsScan recorded p done s moment inputs t piece × PutsAll old new piece
ScansTo recorded p done number s moment inputs t old new (Err (fault.BadRow n)) = ⊥
ScansTo recorded p done number s moment inputs t old new (Err (fault.UnknownName n)) = ⊥
ScansTo recorded p done number s moment inputs t old new (Err (fault.MomentBack n)) = (n ≡ number) × (moment < s.moment) × IsUntouched s t old new
ScansTo recorded p done number s moment inputs t old new (Err (fault.TooLong n)) = ⊥
ScansTo recorded p done number s moment inputs t old new (Err fault.Write) = (piece : List ℕ) × IsScan recorded p done s moment inputs t piece × PutsPrefix old new piece
ScansTo recorded p done number s moment inputs t old new (Err fault.Memory) = IsUntouched s t old new

-- The record of this number was scanned and its piece written, or this fault kept it from that.
abbrev pub StepsTo : {T : Type 0} → Recorded → Drawing → List ℕ → ℕ → ℕ → Standing → Fields → Standing → WriteLog → WriteLog → Result T SimFault → Type 0
StepsTo recorded p columns done number s fields t old new (Ok u) = (piece : List ℕ) × IsStep recorded p columns done s fields t piece × PutsAll old new piece
StepsTo recorded p columns done number s fields t old new (Err (fault.BadRow n)) = (n ≡ number) × IsNoRow columns fields × IsUntouched s t old new
StepsTo recorded p columns done number s fields t old new (Err (fault.UnknownName n)) = ⊥
StepsTo recorded p columns done number s fields t old new (Err (fault.MomentBack n)) = (n ≡ number) × GoesBack s columns fields × IsUntouched s t old new
StepsTo recorded p columns done number s fields t old new (Err (fault.TooLong n)) = ⊥
StepsTo recorded p columns done number s fields t old new (Err fault.Write) = (piece : List ℕ) × IsStep recorded p columns done s fields t piece × PutsPrefix old new piece
StepsTo recorded p columns done number s fields t old new (Err fault.Memory) = IsUntouched s t old new

-- The header has no columns for this fault, whatever records follow it.
abbrev pub NoColumns : Declared → Fields → List Fields → SimFault → Type 0
NoColumns d fields rows fault.Memory = Unit {0}
NoColumns d fields rows fault.Write = ⊥
NoColumns d fields rows (fault.BadRow n) = (n ≡ 1) × IsBadHeader d (fields ∷ rows)
NoColumns d fields rows (fault.UnknownName n) = (n ≡ 1) × HasUnknownName d fields
NoColumns d fields rows (fault.MomentBack n) = ⊥
NoColumns d fields rows (fault.TooLong n) = ⊥

-- The first k records led from s to t, what is recorded of them was written, and the records after them come.
pub record IsGoing (recorded : Recorded) (p : Drawing) (columns : List ℕ) (s : Standing) (all : List Numbered) (k : ℕ) (t : Standing) (old new : WriteLog) (f : Filling) : Type 0 where
  pub text : List ℕ
  pub piece : List ℕ
  pub runs : Runs recorded p columns s (all_fields all) k text piece t
  pub wrote : PutsAll old new (text ++ piece)
  pub left : Comes columns f (drop (k + 1) all)

-- The simulation of these records ends so, and a fault tells the number of the record in the file.
abbrev pub Ends : Recorded → Drawing → Standing → List Numbered → Standing → WriteLog → WriteLog → Result ℕ SimFault → Type 0
Ends recorded p s all t old new end = (r : Result ℕ SimFault) × Follows recorded p s (all_fields all) t old new r × (end ≡ told_of all r)

-- So the lines end where the simulation does with a fault.
abbrev pub EndsLines : Recorded → Drawing → Standing → List Numbered → Standing → WriteLog → WriteLog → SimFault → Type 0
EndsLines lines p s all t old new fault.Write = WritesBefore lines p s (all_fields all) t old new
EndsLines lines p s all t old new f = Ends lines p s all t old new (Err f)

-- So a simulation ends with its lines.
abbrev pub EndsBoth : Recorded → ℕ → Drawing → Standing → List Numbered → Standing → WriteLog → WriteLog → WriteLog → WriteLog → Result ℕ WatchFault → Type 0
EndsBoth recorded each p s all t out out' err err' (Ok n) = Ends recorded p s all t out out' (Ok n) × Ends (as_reached each recorded) p s all t err err' (Ok n)
EndsBoth recorded each p s all t out out' err err' (Err (Sim f)) = Ends recorded p s all t out out' (Err f) × EndsLines (as_reached each recorded) p s all t err err' f
EndsBoth recorded each p s all t out out' err err' (Err Lines) =
    (0 < each) × WritesAll recorded p s (all_fields all) t out out' × Ends (as_reached each recorded) p s all t err err' (Err fault.Write)
