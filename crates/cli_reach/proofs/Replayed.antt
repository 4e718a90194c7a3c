-- The scans of a run that is asked about are scans of the program, and a simulation of its text makes them.
use Rattle.std.proofs.Common.{◌≡◌, ◌∙◌, ◌+◌, ◌<◌, ◌≤◌, ◌^◌, ◌∷◌, [], ℕ, zero, suc, false, List, add-one, ap, arith, get_or, inl, inr, length, map, refl, slice_index_or, sym, take}
use Rattle.std.specs.List.{All, count_by}
use Rattle.std.proofs.lemmas.Bool.{cases_Bool}
use Rattle.std.proofs.lemmas.List.{get_or-map}
use Rattle.std.proofs.lemmas.List.Sums.{count_by_more_no, count_by_more_yes}
use Rattle.std.proofs.Math.Seq.{take-length}
use Rattle.diagram_declarations.specs.Decls.{is_input}
use Rattle.diagram_declarations.specs.declared.decls.Var.{Var}
use Rattle.diagram_program.specs.Program.{Drawing}
use Rattle.scan_cycle.specs.Runs.{OneScan}
use Rattle.scan_cycle.specs.Standing.{Fits, Standing}
use Rattle.reach_runs.specs.Asking.{AreTimed, Gives, RunQuestion, SwitchesOn}
use Rattle.reach_runs.specs.declared.timing.Timing.{Timing}
use Rattle.reach_runs.specs.declared.timing.Timing.TheVariants.{AnyMoments, Every}
use Rattle.reach_runs.proofs.GivenLaws.{as_many, rank, rank_none, rank_off, rank_on}
use Rattle.text_runs.specs.Laws.{IsScanOf}
use Rattle.text_runs.specs.Making.{IsBriefSimulated, IsSimulated, MakesScans}
use Rattle.text_trace.specs.Simulation.{with_scans}
use Rattle.text_trace.specs.Trace.{as_trace}
use Rattle.cli_reach.specs.Finding.{IsReplayed, rows_of, time_of}

-- the rank of the first n variables is the number of the inputs among them
rank_counts : (v : Var) (vars : List Var) (n : ℕ) → n ≤ length vars → rank (map is_input vars) n ≡ count_by is_input (take n vars)
rank_counts v vars zero few = rank_none (map is_input vars)
rank_counts v vars (suc n) few =
    let next = add-one n in
    let there : n < length vars = omega (arith, few) in
    let so_far = rank_counts v vars n (omega (arith, few)) in
    let same : slice_index_or (map is_input vars) n false ≡ is_input (get_or vars n v) = get_or-map is_input vars n v false there in
    elim (cases_Bool (is_input (get_or vars n v))) [
      | inl is ↦ ap (rank (map is_input vars)) (sym next) ∙ rank_on (map is_input vars) n (same ∙ is) ∙ ap (λ m. m + 1) so_far
          ∙ sym (count_by_more_yes is_input vars n v there is) ∙ ap (λ m. count_by is_input (take m vars)) next
      | inr is ↦ ap (rank (map is_input vars)) (sym next) ∙ rank_off (map is_input vars) n (same ∙ is) ∙ so_far
          ∙ sym (count_by_more_no is_input vars n v there is) ∙ ap (λ m. count_by is_input (take m vars)) next
    ]

-- the rank of the end is the number of all inputs
all_counted : (vars : List Var) → rank (map is_input vars) (length vars) ≡ count_by is_input vars
all_counted [] = rank_none []
all_counted (v ∷ vars) = rank_counts v (v ∷ vars) (length (v ∷ vars)) (omega arith) ∙ ap (count_by is_input) (take-length (v ∷ vars))

scans_of : (q : RunQuestion) (run : List OneScan) → All (λ scan. Gives q scan.inputs) run → All (λ scan. scan.moment < 2 ^ 64) run → All (IsScanOf q.program) run
scans_of q run given small = λ k d there.
    (as_many q (slice_index_or run k d).inputs q.program.decls.vars refl (given k d there) ∙ all_counted q.program.decls.vars, small k d there)

replayed_in : (timing : Timing) (p : Drawing) (s : Standing) (from : ℕ) (run : List OneScan) → Fits p s → s.moment ≤ from → AreTimed timing from run
    → All (IsScanOf p) run → IsSimulated p → IsBriefSimulated p → MakesScans (with_scans (time_of timing) as_trace) p s run (rows_of timing p run)
replayed_in AnyMoments p s from run fits later timed all full brief = (full s AnyMoments from run fits later timed all).trace 0
replayed_in (Every zero) p s from run fits later timed all full brief = (full s (Every zero) from run fits later timed all).trace 0
replayed_in (Every (suc more)) p s from run fits later timed all full brief = (brief s (suc more) from run fits later (omega arith) timed all).trace (suc more)

pub replayed : (q : RunQuestion) (run : List OneScan) → Fits q.program q.state → q.state.moment ≤ q.from → SwitchesOn q run
    → All (λ scan. scan.moment < 2 ^ 64) run → IsSimulated q.program → IsBriefSimulated q.program → IsReplayed q run
replayed q run fits later on small full brief =
    replayed_in q.timing q.program q.state q.from run fits later on.asked.timed (scans_of q run on.asked.given small) full brief
