-- How a simulation ends (the profile): with the course of the first records of a stimulus, and with what comes after them. It writes a
-- trace, also with what is watched, a film or a waveform.
-- Records are counted from 1 in a fault, the header included; a place in a list is counted from 0.
use Rattle.std.specs.Prelude.{◌≡◌, ◌⊎◌, ◌++◌, ◌+◌, ◌<◌, ◌≤◌, ℕ, zero, suc, Bool, List, [], Contains, Option, None, Some, Result, Ok, Err, codes, length, slice_get, take}
use Rattle.diagram_declarations.specs.Decls.{Declared}
use Rattle.diagram_program.specs.Program.{Drawing}
use Rattle.io_text.specs.Left.{Fields}
use Rattle.scan_cycle.specs.Standing.{Standing}
use Rattle.text_drawing.specs.Showing.{IsDrawn, film_start, one_scan}
use Rattle.io_text.specs.Log.{PutsAll, PutsPrefix, WriteLog}
use Rattle.text_vcd.specs.Waves.{change_text, start_text}
use Rattle.text_trace.specs.declared.column.Column.{Column}
use Rattle.text_trace.specs.declared.fault.SimFault.{SimFault}
use Rattle.text_trace.specs.declared.fault.SimFault.TheVariants as fault
use Rattle.text_trace.specs.declared.recording.Film.{Film}
use Rattle.text_trace.specs.Filled.{all_fields, filled, told_of}
use Rattle.text_trace.specs.Stimulus.{IsHeader, IsRow, input_named}
use Rattle.text_trace.specs.Trace.{IsStep, Recorded, as_rows, as_trace, scanned}

-- There is an element at this place, and it is such a one.
abbrev pub HasAt : {A : Type 0} → List A → ℕ → (A → Type 0) → Type 0
HasAt xs n P = (x : _) × (slice_get xs n ≡ Some x) × P x

-- ---- the course of a stimulus

-- The header is good, and so are the first k records after it; one after the other they lead from s to t. What is recorded of them is a
-- text and a last piece: what stands before the first scan, and then a piece for each record.
unfoldable pub Runs : Recorded → Drawing → List ℕ → Standing → List Fields → ℕ → List ℕ → List ℕ → Standing → Type 0
Runs recorded p columns s rows zero text piece t =
    HasAt rows 0 (λ r. IsHeader p.decls r columns) × (text ≡ []) × (piece ≡ recorded.head p s) × (t ≡ s)
Runs recorded p columns s rows (suc k) text piece t =
    (before last : List ℕ) × (u : Standing) × Runs recorded p columns s rows k before last u × (text ≡ before ++ last)
    × HasAt rows (suc k) (λ r. IsStep recorded p columns k u r t piece)

-- So the first k records lead from s to t, and they are not too many.
pub record Course (recorded : Recorded) (p : Drawing) (s : Standing) (rows : List Fields) (k : ℕ) (t : Standing) : Type 0 where
  pub columns : List ℕ
  pub text : List ℕ
  pub piece : List ℕ
  pub runs : Runs recorded p columns s rows k text piece t
  pub few : k ≤ recorded.most

-- They were taken: all that is recorded of their course was written.
pub record IsTaken (recorded : Recorded) (p : Drawing) (s : Standing) (rows : List Fields) (k : ℕ) (t : Standing) (old new : WriteLog) : Type 0 where
  pub course : Course recorded p s rows k t
  pub wrote : PutsAll old new (course.text ++ course.piece)

-- Some first records were taken, and the next one, which is not past the most, is such a one for the columns of the header.
abbrev pub StopsAt : Recorded → Drawing → Standing → List Fields → Standing → WriteLog → WriteLog → (List ℕ → Fields → Type 0) → ℕ → Type 0
StopsAt recorded p s rows t old new P n =
    (k : ℕ) × (h : IsTaken recorded p s rows k t old new) × HasAt rows (k + 1) (P h.course.columns) × (k < recorded.most) × (n ≡ k + 2)

-- ---- a record that isn't good

-- The record is no moment with a bit for each column.
abbrev pub IsNoRow : List ℕ → Fields → Type 0
IsNoRow columns fields = (moment : ℕ) (bits : List Bool) → IsRow columns fields moment bits → ⊥

-- The record is a moment with a bit for each column, and the moment is before that of the state.
abbrev pub GoesBack : Standing → List ℕ → Fields → Type 0
GoesBack s columns fields = (moment : ℕ) × (bits : List Bool) × IsRow columns fields moment bits × (moment < s.moment)

-- ---- a header that isn't good

-- Some first fields are a good header with these columns, and the next one names such a thing: an input by its place, or none.
abbrev pub HasWord : (List ℕ → Option ℕ → Type 0) → Declared → Fields → Type 0
HasWord P d fields =
    (n : ℕ) × (columns : List ℕ) × IsHeader d (take n fields) columns × HasAt fields n (λ word. P columns (input_named d word))

-- A word is no input's name.
abbrev pub HasUnknownName : Declared → Fields → Type 0
HasUnknownName = HasWord (λ columns place. place ≡ None)

-- There is no first record that begins with the word for the moment, or a word of it names an input again.
abbrev pub IsBadHeader : Declared → List Fields → Type 0
IsBadHeader d rows =
    (HasAt rows 0 (λ r. HasAt r 0 (λ word. word ≡ codes "moment")) → ⊥)
    ⊎ HasAt rows 0 (HasWord (λ columns place. (c : ℕ) × (place ≡ Some c) × Contains columns c) d)

-- ---- the whole

-- The state is as it was, and nothing was written.
abbrev pub IsUntouched : Standing → Standing → WriteLog → WriteLog → Type 0
IsUntouched s t old new = (t ≡ s) × (new ≡ old)

-- From the state s and the records of a stimulus a simulation leads to t, writes what it records, and returns the number of scans or a
-- fault. Where the writer failed, all was written but the last piece, and of that a prefix.
abbrev pub Follows : Recorded → Drawing → Standing → List Fields → Standing → WriteLog → WriteLog → Result ℕ SimFault → Type 0
Follows recorded p s rows t old new (Ok n) = IsTaken recorded p s rows n t old new × (length rows ≡ n + 1)
Follows recorded p s rows t old new (Err (fault.BadRow n)) =
    StopsAt recorded p s rows t old new IsNoRow n ⊎ ((n ≡ 1) × IsBadHeader p.decls rows × IsUntouched s t old new)
Follows recorded p s rows t old new (Err (fault.UnknownName n)) = (n ≡ 1) × HasAt rows 0 (HasUnknownName p.decls) × IsUntouched s t old new
Follows recorded p s rows t old new (Err (fault.MomentBack n)) = StopsAt recorded p s rows t old new (GoesBack t) n
Follows recorded p s rows t old new (Err (fault.TooLong n)) =
    IsTaken recorded p s rows recorded.most t old new × (recorded.most + 1 < length rows) × (n ≡ recorded.most + 2)
Follows recorded p s rows t old new (Err fault.Write) =
    (k : ℕ) × (c : Course recorded p s rows k t) × (cut : PutsPrefix old new (c.text ++ c.piece)) × (length c.text ≤ length cut.bytes.0)
Follows recorded p s rows t old new (Err fault.Memory) = ((k : ℕ) × IsTaken recorded p s rows k t old new) ⊎ IsUntouched s t old new

-- ---- with scans between the records

-- With a time between two scans, so many ms, a simulation takes 10 ^ 10 records, those in between included.
abbrev pub most_by : ℕ → ℕ → ℕ
most_by zero most = most
most_by (suc n) most = 10000000000

abbrev pub with_scans : ℕ → Recorded → Recorded
with_scans every recorded = record { most = most_by every recorded.most; head = recorded.head; Tells = recorded.Tells }

-- The same with scans between the records, so many ms apart: it is the simulation of the stimulus that has records for these as well, and a
-- fault tells the number of the record in the file. Without such a time there are none.
abbrev pub FollowsEvery : Recorded → ℕ → Drawing → Standing → List Fields → Standing → WriteLog → WriteLog → Result ℕ SimFault → Type 0
FollowsEvery recorded zero p s rows t old new end = Follows recorded p s rows t old new end
FollowsEvery recorded (suc n) p s rows t old new end =
    (r : Result ℕ SimFault) × Follows (with_scans (suc n) recorded) p s (all_fields (filled (suc n) rows)) t old new r
    × (end ≡ told_of (filled (suc n) rows) r)

-- ---- by what is recorded

-- So a simulation ends that writes a trace, with one scan a record.
abbrev pub Simulates : Drawing → Standing → List Fields → Standing → WriteLog → WriteLog → Result ℕ SimFault → Type 0
Simulates = Follows as_trace

-- The same with a scan every so many ms between two records; 0 holds none.
abbrev pub SimulatesEvery : ℕ → Drawing → Standing → List Fields → Standing → WriteLog → WriteLog → Result ℕ SimFault → Type 0
SimulatesEvery = FollowsEvery as_trace

-- So one ends that writes a trace with these columns behind the outputs: of changes, or whole.
abbrev pub WatchesEvery : Bool → List Column → ℕ → Drawing → Standing → List Fields → Standing → WriteLog → WriteLog → Result ℕ SimFault → Type 0
WatchesEvery changes columns = FollowsEvery (as_rows changes columns)

-- A waveform is the start of a dump, and of each scan what it has changed.
abbrev pub as_waves : Recorded
as_waves = record {
  most = 1000000;
  head = λ p s. start_text p s;
  Tells = λ p done s moment inputs piece. piece ≡ change_text p s (scanned p s moment inputs);
}

-- So one ends that writes a waveform.
abbrev pub WavesEvery : ℕ → Drawing → Standing → List Fields → Standing → WriteLog → WriteLog → Result ℕ SimFault → Type 0
WavesEvery = FollowsEvery as_waves

-- A film is the beginning of its page, and of each scan its drawing.
abbrev pub as_film : Film → Recorded
as_film film = record {
  most = 1000;
  head = λ p s. film_start film.style film.title.now;
  Tells = λ p done s moment inputs piece. IsDrawn film.style (one_scan film.text.now p s inputs moment film.coil) piece;
}

-- So one ends that writes a film, which has no scans between the records.
abbrev pub Films : Film → Drawing → Standing → List Fields → Standing → WriteLog → WriteLog → Result ℕ SimFault → Type 0
Films film = Follows (as_film film)
