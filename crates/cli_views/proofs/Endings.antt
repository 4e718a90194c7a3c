-- How a request for one scan that is shown, or for a simulation, ends.
use Rattle.std.proofs.Common.{◌≡◌, ◌∙◌, Result, ap, subst, sym, ℕ, Bool, List, Option, Some}
use Rattle.std.specs.Prelude.{None, unwrap_or}
use Rattle.std.specs.Option.{option_or}
use Rattle.diagram_program.specs.Program.{Drawing}
use Rattle.scan_cycle.specs.Programs.{diagram_of}
use Rattle.scan_cycle.specs.Standing.{Standing}
use Rattle.text_drawing.specs.Showing.{IsDrawn, OneScan, one_scan}
use Rattle.causes_query.specs.Assignment.{assignment}
use Rattle.causes_query.specs.declared.fault.CauseFault.{CauseFault}
use Rattle.causes_query.specs.Causes.{question}
use Rattle.causes_query.specs.Refusal.{scan_refusal}
use Rattle.io_text.specs.Log.{WriteLog}
use Rattle.cli_views.specs.Views.{broken_first, coil_refusal, shown_inputs, shown_scan, style_for}
use Rattle.cli_inputs.specs.Setting.{Given}
use Rattle.cli_arguments.specs.declared.request.ShowRequest.{ShowRequest}
use Rattle.io_text.specs.Text.{records_of}
use Rattle.text_trace.specs.declared.column.Column.{Column}
use Rattle.text_trace.specs.declared.fault.SimFault.{SimFault}
use Rattle.text_trace.specs.declared.recording.Film.{Film}
use Rattle.text_trace.specs.declared.fault.WatchFault.{WatchFault}
use Rattle.text_trace.specs.Reached.{WatchesTold}
use Rattle.text_trace.specs.Simulation.{Films, SimulatesEvery, WavesEvery}
use Rattle.text_expected.specs.Expected.{Compares}
use Rattle.text_expected.specs.declared.fault.ExpectFault.{ExpectFault}
use Rattle.io_text.specs.Left.{Fields}

-- The coil's rule comes first.
pub coil_first : (v : ShowRequest) (p : Drawing) (s : Standing) (coil : Option ℕ) (listed : List ℕ) (f : CauseFault) → coil_refusal p coil ≡ Some f
    → broken_first v p s coil listed ≡ Some f
coil_first v p s coil listed f e = ap (λ x. option_or x (scan_refusal (question p s (unwrap_or v.moment s.moment) 0 listed) (unwrap_or v.number 0))) e

-- It is refused as what is asked is, where its moment, its listed inputs and its number are those that are asked for.
pub same_refusal : (v : ShowRequest) (p : Drawing) (s : Standing) (now n : ℕ) (coil : Option ℕ) (listed given : List ℕ) → coil_refusal p coil ≡ None → given ≡ listed
    → now ≡ unwrap_or v.moment s.moment → n ≡ unwrap_or v.number 0 → broken_first v p s coil listed ≡ scan_refusal (question p s now 0 given) n
same_refusal v p s now n coil listed given of_coil as_given at number =
    ap (λ x. option_or x (scan_refusal (question p s (unwrap_or v.moment s.moment) 0 listed) (unwrap_or v.number 0))) of_coil
    ∙ ap (λ xs. scan_refusal (question p s (unwrap_or v.moment s.moment) 0 xs) (unwrap_or v.number 0)) (sym as_given)
    ∙ ap (λ t. scan_refusal (question p s t 0 given) (unwrap_or v.number 0)) (sym at)
    ∙ ap (λ k. scan_refusal (question p s now 0 given) k) (sym number)

-- Its inputs are those that are asked for.
pub same_inputs : (v : ShowRequest) (p : Drawing) (s : Standing) (n : ℕ) (listed given : List ℕ) (inputs : List Bool) → given ≡ listed → n ≡ unwrap_or v.number 0
    → inputs ≡ assignment (diagram_of p).inputs given n s.held.values → inputs ≡ shown_inputs v p s listed
same_inputs v p s n listed given inputs as_given number made =
    made ∙ ap (λ xs. assignment (diagram_of p).inputs xs n s.held.values) as_given ∙ ap (λ k. assignment (diagram_of p).inputs listed k s.held.values) number

-- What is drawn of it is what is asked.
pub same_drawing : (g : Given) (v : ShowRequest) (p : Drawing) (s : Standing) (now : ℕ) (coil : Option ℕ) (listed text : List ℕ) (image inputs : List Bool)
    (shown : List ℕ) → now ≡ unwrap_or v.moment s.moment → text ≡ g.program → image ≡ inputs → inputs ≡ shown_inputs v p s listed
    → IsDrawn (style_for v.medium) (one_scan text p s image now coil) shown → IsDrawn (style_for v.medium) (shown_scan g v p s coil listed) shown
same_drawing g v p s now coil listed text image inputs shown at same read made drawn =
    let scan : one_scan text p s image now coil ≡ shown_scan g v p s coil listed =
    ap (λ t. one_scan t p s image now coil) same ∙ ap (λ xs. one_scan g.program p s xs now coil) (read ∙ made)
    ∙ ap (λ t. one_scan g.program p s (shown_inputs v p s listed) t coil) at in
    subst (λ (x : OneScan). IsDrawn (style_for v.medium) x shown) scan drawn

pub same_stimulus : (every other : ℕ) (p : Drawing) (s t : Standing) (a b : List ℕ) (old new : WriteLog) (r : Result ℕ SimFault) → a ≡ b → every ≡ other
    → SimulatesEvery every p s (records_of a) t old new r → SimulatesEvery other p s (records_of b) t old new r
same_stimulus every other p s t a b old new r e f h = rw (← f) (rw e at h)

pub same_film : (film : Film) (p : Drawing) (s t : Standing) (a b : List ℕ) (old new : WriteLog) (r : Result ℕ SimFault) → a ≡ b
    → Films film p s (records_of a) t old new r → Films film p s (records_of b) t old new r
same_film film p s t a b old new r e h = rw e at h

pub same_waves : (every other : ℕ) (p : Drawing) (s t : Standing) (a b : List ℕ) (old new : WriteLog) (r : Result ℕ SimFault) → a ≡ b → every ≡ other
    → WavesEvery every p s (records_of a) t old new r → WavesEvery other p s (records_of b) t old new r
same_waves every other p s t a b old new r e f h = rw (← f) (rw e at h)

pub same_columns : (tells changes : Bool) (columns others : List Column) (every : ℕ) (p : Drawing) (s t : Standing) (rows : List Fields) (out out' err err' : WriteLog)
    (end : Result ℕ WatchFault) → others ≡ columns → WatchesTold tells changes others every p s rows t out out' err err' end
    → WatchesTold tells changes columns every p s rows t out out' err err' end
same_columns tells changes columns others every p s t rows out out' err err' end e h =
    subst (λ (xs : List Column). WatchesTold tells changes xs every p s rows t out out' err err' end) e h

pub same_compared : (a b c d : List ℕ) (old new : WriteLog) (r q : Result Bool ExpectFault) → a ≡ b → c ≡ d → r ≡ q
    → Compares (records_of a) (records_of c) old new r → Compares (records_of b) (records_of d) old new q
same_compared a b c d old new r q e f k h =
    subst (λ (x : Result Bool ExpectFault). Compares (records_of b) (records_of d) old new x) k
    (subst (λ (x : List ℕ). Compares (records_of b) (records_of x) old new r) f
    (subst (λ (x : List ℕ). Compares (records_of x) (records_of c) old new r) e h))
