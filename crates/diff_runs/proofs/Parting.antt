-- The runs of both programs that a run of b has in it.
use Rattle.std.proofs.Common.{◌≡◌, ◌∙◌, ap, arith, false, get_or, length, map, slice_get, sym, true, ℕ, ◌<◌, ◌≤◌, Bool, List, [], ◌∷◌, Some, slice_index_or, suc}
use Rattle.std.specs.List.{All}
use Rattle.std.proofs.lemmas.List.{get_or-map, length-map}
use Rattle.std.proofs.lemmas.List.Elements.{All-contains}
use Rattle.std.proofs.lemmas.Option.{same_Some, slice_get-get_or, slice_get_within}
use Rattle.diagram_program.specs.Program.{Drawing}
use Rattle.scan_cycle.specs.Programs.{IsSound, diagram_of}
use Rattle.scan_cycle.specs.Runs.{IsRun, OneScan}
use Rattle.scan_cycle.specs.Standing.{Standing}
use Rattle.diff_matching.specs.declared.matching.Pair.{Pair}
use Rattle.diff_matching.specs.Matching.{AgreeOnInputs, Matching}
use Rattle.diff_matching.specs.Runs.{AreRuns, TwoScans, next, with_inputs}
use Rattle.diff_matching.specs.Suited.{AreBoth}
use Rattle.diff_runs.specs.Beside.{AreBeside, IsPart}
use Rattle.diff_runs.specs.Pulling.{ArePlaces, inputs_of, pulled, pulled_values}
use Rattle.diff_runs.proofs.Inputs.{given_input, input_at, next_sizes}
use Rattle.diff_runs.proofs.Pairs.{are_one, contained, found_at}

-- a scan of one of the programs beside that of b
abbrev pub part_scan : List ℕ → OneScan → TwoScans
part_scan places scan = record { moment = scan.moment; old = pulled_values places scan.inputs; new = scan.inputs }

module _ (m : Matching) (p b : Drawing) (old_sound : IsSound (diagram_of p)) (sound : IsSound (diagram_of b)) (part : IsPart m p b) (places : List ℕ) (are : ArePlaces m p b places) where
  -- Inputs that are with each other take the same value.
  alike : (values : List Bool) → length values ≡ length (inputs_of b)
      → (s u : Standing) → length s.held.values ≡ length (diagram_of p).inputs → length u.held.values ≡ length (diagram_of b).inputs
      → AgreeOnInputs m (with_inputs p (pulled_values places values) s).held (with_inputs b values u).held
  alike values as_many s u old_sizes sizes n x pair_at =
      let pair = contained m.inputs n x pair_at in
      let at = input_at p x.old (All-contains (AreBoth true p b) m.inputs x part.inputs.are_inputs pair).0 in
      let within : at.0 < length places = omega (arith, are.as_many, slice_get_within (inputs_of p) at.0 x.old at.1) in
      let place = get_or places at.0 0 in
      let is = are.each at.0 place (slice_get-get_or places at.0 0 within) in
      let same : is.pair ≡ x = are_one (λ (y : Pair). y.old) m.inputs part.inputs.old_once is.pair x is.paired pair (same_Some is.pair.old x.old (sym is.old ∙ at.1)) in
      let new : slice_get (inputs_of b) place ≡ Some x.new = is.new ∙ ap (λ (y : Pair). Some y.new) same in
      given_input p (pulled_values places values) s old_sizes at.0 x.old at.1 (omega (arith, within, length-map places (λ k. slice_index_or values k false)))
      ∙ get_or-map (λ k. slice_index_or values k false) places at.0 0 false within
      ∙ sym (given_input b values u sizes place x.new new (omega (arith, as_many, slice_get_within (inputs_of b) place x.new new)))

  pub part_runs : (scans : List OneScan) (from : ℕ) → IsRun from scans → All (λ scan. length scan.inputs ≡ length (inputs_of b)) scans
      → (s u : Standing) → length s.held.values ≡ length (diagram_of p).inputs → length u.held.values ≡ length (diagram_of b).inputs → s.moment ≤ from → u.moment ≤ from
      → AreRuns m p b (map (part_scan places) scans) s u
  unfolding AreRuns
  part_runs [] from timed as_many s u old_sizes sizes old_later later = tt
  part_runs (scan ∷ more) from timed as_many s u old_sizes sizes old_later later =
      let old = pulled_values places scan.inputs in (
        omega (arith, old_later, timed.0),
        omega (arith, later, timed.0),
        timed.1,
        alike scan.inputs (as_many 0 scan (omega arith)) s u old_sizes sizes,
        part_runs more scan.moment timed.2 (λ k d less. as_many (suc k) d (omega (arith, less))) (next p scan.moment old s) (next b scan.moment scan.inputs u)
            (next_sizes p old_sound scan.moment old s old_sizes) (next_sizes b sound scan.moment scan.inputs u sizes) (omega arith) (omega arith),
      )

-- Runs of each program beside b are runs of the two.
pub both_runs : (m of_old of_new : Matching) (p q b : Drawing) → AreBeside m of_old of_new p q b → (old_places new_places : List ℕ) (scans : List OneScan) (s t u : Standing)
    → AreRuns of_old p b (map (part_scan old_places) scans) s u → AreRuns of_new q b (map (part_scan new_places) scans) t u
    → AreRuns m p q (map (pulled old_places new_places) scans) s t
unfolding AreRuns
both_runs m of_old of_new p q b beside old_places new_places [] s t u old new = tt
both_runs m of_old of_new p q b beside old_places new_places (scan ∷ more) s t u old new = (
  old.0,
  new.0,
  old.2,
  λ n x is.
      let with = beside.inputs.together x (contained m.inputs n x is) in
      let first : Pair = record { old = x.old; new = with.0 } in
      let second : Pair = record { old = x.new; new = with.0 } in
      old.3 with.1.0 first (found_at of_old.inputs first with.1) ∙ sym (new.3 with.2.0 second (found_at of_new.inputs second with.2)),
  both_runs m of_old of_new p q b beside old_places new_places more (next p scan.moment (pulled_values old_places scan.inputs) s)
      (next q scan.moment (pulled_values new_places scan.inputs) t) (next b scan.moment scan.inputs u) old.4 new.4,
)
