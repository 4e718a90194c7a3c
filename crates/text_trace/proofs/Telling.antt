-- The lines of a simulation, beside what is recorded of it.
use Rattle.std.proofs.Common.{◌≡◌, ◌+◌, ◌<◌, ◌≤◌, ◌++◌, [], ℕ, List, Some, Result, Ok, Err, refl, ap, arith, drop, slice_get, subst}
use Rattle.std.specs.Prelude.{⊤}
use Rattle.csv.specs.Records.{fields_of}
use Rattle.diagram_program.specs.Program.{Drawing}
use Rattle.io_text.specs.Left.{Fields}
use Rattle.scan_cycle.specs.Standing.{Standing}
use Rattle.io_text.specs.Log.{PutsAll, PutsPrefix, WriteLog}
use Rattle.text_trace.specs.declared.fault.SimFault.{SimFault}
use Rattle.text_trace.specs.declared.fault.SimFault.TheVariants as fault
use Rattle.text_trace.specs.declared.fault.WatchFault.{WatchFault}
use Rattle.text_trace.specs.declared.fault.WatchFault.TheVariants.{Lines, Sim}
use Rattle.text_trace.specs.declared.filling.Filling.{Filling}
use Rattle.text_trace.specs.declared.filling.Taken.{Taken}
use Rattle.text_trace.specs.Coming.{Gives, Takes}
use Rattle.text_trace.specs.Filled.{Numbered, all_fields, filled, numbered}
use Rattle.text_trace.specs.Reached.{LinesEnd, Reaches, WritesAll, WritesBefore, as_reached, reached_piece}
use Rattle.text_trace.specs.Simulation.{Runs, with_scans}
use Rattle.text_trace.specs.Steps.{Ends, EndsBoth, EndsLines, IsGoing, NoColumns, StepsTo}
use Rattle.text_trace.specs.Stimulus.{IsHeader}
use Rattle.text_trace.specs.Trace.{IsStep, Recorded}
use Rattle.io_text.proofs.Puts.{puts_none}
use Rattle.text_trace.proofs.Plain.{ends_by, header_at}
use Rattle.text_trace.proofs.Whole.{bad_header}
use Rattle.text_trace.proofs.Taking.{fields_at, going_more, going_stops, one_taken, runs_more, was_taken}

-- A scan of which something is recorded is one of the lines.
line_step : (recorded : Recorded) (each : ℕ) (p : Drawing) (columns : List ℕ) (done : ℕ) (s : Standing) (fields : Fields) (t : Standing) (piece : List ℕ)
    → IsStep recorded p columns done s fields t piece → IsStep (as_reached each recorded) p columns done s fields t (reached_piece each done t.moment)
line_step recorded each p columns done s fields t piece h =
    record { moment = h.moment; bits = h.bits; row = h.row; later = h.later; after = h.after; told = ap (λ (x : Standing). reached_piece each done x.moment) h.after }

-- Its line was written.
pub line_more : (recorded : Recorded) (each : ℕ) (p : Drawing) (columns : List ℕ) (s t u : Standing) (all : List Numbered) (taken : Taken) (out out' a b c : WriteLog) (number : ℕ) (f g : Filling)
    → IsGoing (as_reached each recorded) p columns s all number t a b f → Takes columns (drop (number + 1) all) (Some taken) g
    → ((fields : Fields) → Gives columns taken.moment (fields_of g.last) fields → (piece : List ℕ) × IsStep recorded p columns number t fields u piece × PutsAll out out' piece)
    → PutsAll b c (reached_piece each number u.moment) → IsGoing (as_reached each recorded) p columns s all (number + 1) u a c g
line_more recorded each p columns s t u all taken out out' a b c number f g h takes steps told =
    going_more (as_reached each recorded) p columns s t u all taken a b c number f g h takes
    (λ fields gives. let (piece, step, wrote) = steps fields gives in (reached_piece each number u.moment, line_step recorded each p columns number t fields u piece step, told))

-- It could not be.
pub line_cut : (recorded : Recorded) (each : ℕ) (p : Drawing) (columns : List ℕ) (s t u : Standing) (all : List Numbered) (taken : Taken) (out out' a b c : WriteLog) (number : ℕ) (f g : Filling)
    → IsGoing (as_reached each recorded) p columns s all number t a b f → number < recorded.most → Takes columns (drop (number + 1) all) (Some taken) g
    → ((fields : Fields) → Gives columns taken.moment (fields_of g.last) fields → (piece : List ℕ) × IsStep recorded p columns number t fields u piece × PutsAll out out' piece)
    → PutsPrefix b c (reached_piece each number u.moment) → Ends (as_reached each recorded) p s all u a c (Err fault.Write)
line_cut recorded each p columns s t u all taken out out' a b c number f g h few takes steps told =
    going_stops (as_reached each recorded) p columns s t u all taken fault.Write a b c number f g h few takes
    (λ fields gives. let (piece, step, wrote) = steps fields gives in (reached_piece each number u.moment, line_step recorded each p columns number t fields u piece step, told))

-- All was written that is recorded of the scans.
pub all_written : (recorded : Recorded) (p : Drawing) (columns : List ℕ) (s t : Standing) (all : List Numbered) (a b : WriteLog) (number : ℕ) (f : Filling)
    → IsGoing recorded p columns s all number t a b f → number ≤ recorded.most → WritesAll recorded p s (all_fields all) t a b
all_written recorded p columns s t all a b number f h few = (number, was_taken recorded p columns s t t all a b b number f h few refl refl)

-- A fault kept what is recorded from being written, and so the line.
pub lines_end : (recorded : Recorded) (each : ℕ) (p : Drawing) (columns : List ℕ) (s t u : Standing) (all : List Numbered) (taken : Taken) (stop : SimFault) (out out' a b : WriteLog) (number : ℕ)
    (f g : Filling) → IsGoing (as_reached each recorded) p columns s all number t a b f → number < recorded.most → Takes columns (drop (number + 1) all) (Some taken) g
    → ((fields : Fields) → Gives columns taken.moment (fields_of g.last) fields → StepsTo {T = ⊤} recorded p columns number taken.number t fields u out out' (Err stop))
    → EndsLines (as_reached each recorded) p s all u a b stop
lines_end recorded each p columns s t u all taken (fault.BadRow n) out out' a b number f g h few takes steps =
    going_stops (as_reached each recorded) p columns s t u all taken (fault.BadRow n) a b b number f g h few takes
    (λ fields gives. let (same, bad, kept) = steps fields gives in (same, bad, (kept.0, refl)))
lines_end recorded each p columns s t u all taken (fault.UnknownName n) out out' a b number f g h few takes steps =
    going_stops (as_reached each recorded) p columns s t u all taken (fault.UnknownName n) a b b number f g h few takes (λ fields gives. steps fields gives)
lines_end recorded each p columns s t u all taken (fault.MomentBack n) out out' a b number f g h few takes steps =
    going_stops (as_reached each recorded) p columns s t u all taken (fault.MomentBack n) a b b number f g h few takes
    (λ fields gives. let (same, back, kept) = steps fields gives in (same, back, (kept.0, refl)))
lines_end recorded each p columns s t u all taken (fault.TooLong n) out out' a b number f g h few takes steps =
    going_stops (as_reached each recorded) p columns s t u all taken (fault.TooLong n) a b b number f g h few takes (λ fields gives. steps fields gives)
lines_end recorded each p columns s t u all taken fault.Write out out' a b number f g h few takes steps =
    let (r, at, same, gives, comes) = one_taken columns all (number + 1) taken g takes in
    let (piece, step, cut) = steps r.fields gives in
    let line = reached_piece each number u.moment in (
      number + 1,
      record {
        columns = columns;
        text = h.text ++ h.piece;
        piece = line;
        runs =
            runs_more (as_reached each recorded) p columns s (all_fields all) number h.text h.piece line t u r.fields h.runs (fields_at all (number + 1) r at)
            (line_step recorded each p columns number t r.fields u piece step);
        few = omega (arith, few);
      },
      h.wrote,
    )
lines_end recorded each p columns s t u all taken fault.Memory out out' a b number f g h few takes steps =
    going_stops (as_reached each recorded) p columns s t u all taken fault.Memory a b b number f g h few takes (λ fields gives. let kept = steps fields gives in (kept.0, refl))

-- ---- the header

pub bad_header_lines : (lines : Recorded) (p : Drawing) (s : Standing) (every : ℕ) (rows : List Fields) (fields : Fields) (a : WriteLog) (f : SimFault) → slice_get rows 0 ≡ Some fields
    → ((behind : List Fields) → NoColumns p.decls fields behind f) → EndsLines lines p s (filled every rows) s a a f
bad_header_lines lines p s every rows fields a fault.Write e h = absurd (h rows)
bad_header_lines lines p s every rows fields a fault.Memory e h = bad_header lines p s every rows fields a fault.Memory e h
bad_header_lines lines p s every rows fields a (fault.BadRow n) e h = bad_header lines p s every rows fields a (fault.BadRow n) e h
bad_header_lines lines p s every rows fields a (fault.UnknownName n) e h = bad_header lines p s every rows fields a (fault.UnknownName n) e h
bad_header_lines lines p s every rows fields a (fault.MomentBack n) e h = absurd (h rows)
bad_header_lines lines p s every rows fields a (fault.TooLong n) e h = absurd (h rows)

-- Before the first text nothing is told.
pub cut_header_lines : (recorded : Recorded) (each : ℕ) (p : Drawing) (s : Standing) (every : ℕ) (rows : List Fields) (fields : Fields) (columns : List ℕ) (a : WriteLog)
    → slice_get rows 0 ≡ Some fields → IsHeader p.decls fields columns → EndsLines (as_reached each recorded) p s (filled every rows) s a a fault.Write
unfolding Runs
cut_header_lines recorded each p s every rows fields columns a e header = (
  0,
  record {
    columns = columns;
    text = [];
    piece = [];
    runs = ((fields, fields_at (filled every rows) 0 (numbered 1 fields) (header_at every rows fields e), header), refl, refl, refl);
    few = omega arith;
  },
  puts_none a,
)

-- ---- the records of the stimulus

lines_by : (lines : Recorded) (every held : ℕ) (p : Drawing) (s : Standing) (rows : List Fields) (t : Standing) (a b : WriteLog) (f : SimFault) → held ≡ every
    → EndsLines (with_scans every lines) p s (filled held rows) t a b f → LinesEnd lines every p s rows t a b f
lines_by lines every held p s rows t a b fault.Write e h =
    subst (λ x. WritesBefore (with_scans every lines) p s (all_fields (filled x rows)) t a b) e h
lines_by lines every held p s rows t a b fault.Memory e h = ends_by lines every held p s rows t a b (Err fault.Memory) e h
lines_by lines every held p s rows t a b (fault.BadRow n) e h = ends_by lines every held p s rows t a b (Err (fault.BadRow n)) e h
lines_by lines every held p s rows t a b (fault.UnknownName n) e h = ends_by lines every held p s rows t a b (Err (fault.UnknownName n)) e h
lines_by lines every held p s rows t a b (fault.MomentBack n) e h = ends_by lines every held p s rows t a b (Err (fault.MomentBack n)) e h
lines_by lines every held p s rows t a b (fault.TooLong n) e h = ends_by lines every held p s rows t a b (Err (fault.TooLong n)) e h

pub reaches_by : (recorded : Recorded) (each every held : ℕ) (p : Drawing) (s : Standing) (rows : List Fields) (t : Standing) (out out' a b : WriteLog) (end : Result ℕ WatchFault) → held ≡ every
    → EndsBoth (with_scans every recorded) each p s (filled held rows) t out out' a b end → Reaches recorded each every p s rows t out out' a b end
reaches_by recorded each every held p s rows t out out' a b (Ok n) e h =
    (ends_by recorded every held p s rows t out out' (Ok n) e h.0, ends_by (as_reached each recorded) every held p s rows t a b (Ok n) e h.1)
reaches_by recorded each every held p s rows t out out' a b (Err (Sim f)) e h =
    (ends_by recorded every held p s rows t out out' (Err f) e h.0, lines_by (as_reached each recorded) every held p s rows t a b f e h.1)
reaches_by recorded each every held p s rows t out out' a b (Err Lines) e (some, wrote, ends) = (
  some,
  subst (λ x. WritesAll (with_scans every recorded) p s (all_fields (filled x rows)) t out out') e wrote,
  ends_by (as_reached each recorded) every held p s rows t a b (Err fault.Write) e ends,
)
