-- The laws of simulations, by the law of the text.
use Rattle.std.proofs.Common.{◌∙◌, ◌+◌, ◌≤◌, ◌∷◌, [], ℕ, List, arith, subst, sym, take}
use Rattle.std.specs.List.{All}
use Rattle.std.proofs.lemmas.List.Elements.{All-head, All-tail}
use Rattle.std.proofs.lemmas.Option.{get_or_from_slice_get, slice_get_within}
use Rattle.diagram_program.specs.Program.{Drawing}
use Rattle.io_text.specs.Left.{Fields}
use Rattle.reach_runs.specs.Asking.{AreTimed}
use Rattle.reach_runs.specs.declared.timing.Timing.{Timing}
use Rattle.reach_runs.specs.declared.timing.Timing.TheVariants.{AnyMoments, Every}
use Rattle.scan_cycle.specs.Programs.{diagram_of}
use Rattle.scan_cycle.specs.Runs.{IsRun, OneScan}
use Rattle.scan_cycle.specs.Standing.{Fits, Standing}
use Rattle.text_runs.specs.Laws.{IsBriefRun, IsScanOf, IsStimulusOfRun, TellsRun, TellsScan}
use Rattle.text_runs.specs.Making.{IsBriefSimulated, IsSimulated, IsSimulatedAs, MakesScans}
use Rattle.text_trace.specs.Simulation.{as_film, as_waves, with_scans}
use Rattle.text_trace.specs.Trace.{Recorded, as_trace, as_watched}
use Rattle.text_runs.proofs.Lengths.{scans_keep}
use Rattle.text_runs.proofs.Making.{IsGiven, ends, leads, rows_of, runs, written}

run_of : (p : Drawing) (timing : Timing) (m from : ℕ) (scans : List OneScan) → m ≤ from → AreTimed timing from scans → All (IsScanOf p) scans → IsRun m scans
run_of p AnyMoments m from [] h timed all = tt
run_of p AnyMoments m from (scan ∷ more) h timed all = let later = timed.0 in (omega (arith, h, later), timed.1, timed.2)
run_of p (Every every) m from [] h timed all = tt
run_of p (Every every) m from (scan ∷ more) h timed all =
    let at = timed.0 in (
      omega (arith, h, at),
      (All-head (IsScanOf p) scan more all).1,
      run_of p (Every every) scan.moment (from + every) more (omega (arith, at)) timed.1 (All-tail (IsScanOf p) scan more all),
    )

given_of : (p : Drawing) (s : Standing) (timing : Timing) (from : ℕ) (scans : List OneScan) → TellsRun p scans → Fits p s → s.moment ≤ from → AreTimed timing from scans
    → All (IsScanOf p) scans → IsGiven p s scans
given_of p s timing from scans told fits later timed all = record {
  header = told.header;
  rows = λ n x at. subst (TellsScan p) (get_or_from_slice_get scans n x x at) (told.rows n x (slice_get_within scans n x at));
  run = run_of p timing s.moment from scans later timed all;
  wide = λ n. scans_keep (diagram_of p) (take n scans) s.held ∙ fits.values;
}

makes : (recorded : Recorded) (p : Drawing) (s : Standing) (scans : List OneScan) → IsGiven p s scans → MakesScans recorded p s scans (rows_of p scans)
makes recorded p s scans g = record { leads = leads recorded p s scans g; ends = ends recorded p s scans g }

pub is_simulated : (p : Drawing) → IsStimulusOfRun p → IsSimulated p
is_simulated p told s timing from scans fits later timed all =
    let run = told scans all in
    let g = given_of p s timing from scans run fits later timed all in
    subst (λ (rows : List Fields). IsSimulatedAs p s scans rows) (sym run.records) (record {
      trace = λ every. makes (with_scans every as_trace) p s scans g;
      watched = λ every columns. makes (with_scans every (as_watched columns)) p s scans g;
      film = λ film. makes (as_film film) p s scans g;
      waves = λ every. makes (with_scans every as_waves) p s scans g;
      written = λ every. written every p s scans g;
      runs = λ every. runs every p s scans g;
    })

pub is_brief_simulated : (p : Drawing) → IsBriefRun p → IsSimulated p → IsBriefSimulated p
is_brief_simulated p brief simulated s every from scans fits later some rhythm all =
    subst (λ (rows : List Fields). IsSimulatedAs p s scans rows) (sym (brief every from scans some rhythm all).filled)
    (simulated s (Every every) from scans fits later rhythm all)
