-- The run of b that has runs of both programs in it.
use Rattle.std.proofs.Common.{◌≡◌, ◌∙◌, ap, arith, false, get_or, length, map, refl, slice_get, sym, true, ℕ, ◌<◌, ◌≤◌, Bool, List, [], ◌∷◌, Some, Contains}
use Rattle.std.proofs.lemmas.List.{get_or-map, length-map}
use Rattle.std.proofs.lemmas.List.Elements.{All-contains}
use Rattle.std.proofs.lemmas.Option.{get_or_from_slice_get, slice_get_within}
use Rattle.diagram_declarations.specs.Decls.{is_input}
use Rattle.diagram_program.specs.Program.{Drawing}
use Rattle.scan_cycle.specs.Programs.{IsSound, diagram_of}
use Rattle.scan_cycle.specs.Runs.{IsRun, OneScan}
use Rattle.scan_cycle.specs.Standing.{Standing}
use Rattle.diff_matching.specs.declared.matching.Pair.{Pair}
use Rattle.diff_matching.specs.Matching.{AgreeOnInputs, Matching}
use Rattle.diff_matching.specs.Runs.{AreRuns, TwoScans, next, with_inputs}
use Rattle.diff_matching.specs.Suited.{AreBoth}
use Rattle.diff_runs.specs.Beside.{AreBeside}
use Rattle.diff_runs.specs.Pulling.{inputs_of}
use Rattle.diff_runs.proofs.Inputs.{given_input, input_at, next_sizes}
use Rattle.diff_runs.proofs.Pairs.{contained, found_at, value_for, value_of_new, value_of_old}

-- One scan of both programs, and the values of all inputs of b.
pub record Joined : Type 0 where
  pub two : TwoScans
  pub all : List Bool

-- the scan of b, and its scan beside that of one of the two programs
abbrev pub joined_scan : Joined → OneScan
joined_scan x = record { moment = x.two.moment; inputs = x.all }

abbrev pub with_old : Joined → TwoScans
with_old x = record { moment = x.two.moment; old = x.two.old; new = x.all }

abbrev pub with_new : Joined → TwoScans
with_new x = record { moment = x.two.moment; old = x.two.new; new = x.all }

-- each input of b takes the value of the input that it is with
abbrev pub all_values : Matching → Matching → Drawing → Drawing → Drawing → TwoScans → Standing → Standing → List Bool
all_values of_old of_new p q b scan s t =
    map (value_for of_old.inputs of_new.inputs (with_inputs p scan.old s).held.values (with_inputs q scan.new t).held.values) (inputs_of b)

abbrev pub joined : Matching → Matching → Drawing → Drawing → Drawing → List TwoScans → Standing → Standing → List Joined
joined of_old of_new p q b [] s t = []
joined of_old of_new p q b (scan ∷ more) s t =
    record { two = scan; all = all_values of_old of_new p q b scan s t }
    ∷ joined of_old of_new p q b more (next p scan.moment scan.old s) (next q scan.moment scan.new t)

pub joined_two : (of_old of_new : Matching) (p q b : Drawing) (scans : List TwoScans) (s t : Standing) → map (λ x. x.two) (joined of_old of_new p q b scans s t) ≡ scans
joined_two of_old of_new p q b [] s t = refl
joined_two of_old of_new p q b (scan ∷ more) s t =
    ap (λ rest. scan ∷ rest) (joined_two of_old of_new p q b more (next p scan.moment scan.old s) (next q scan.moment scan.new t))

-- An input takes the value of its number, where all inputs are given those of theirs.
takes : (f : ℕ → Bool) (b : Drawing) (u : Standing) → length u.held.values ≡ length (diagram_of b).inputs
    → (i : ℕ) → slice_get (map is_input b.decls.vars) i ≡ Some true → get_or (with_inputs b (map f (inputs_of b)) u).held.values i false ≡ f i
takes f b u sizes i is =
    let at = input_at b i is in
    let within : at.0 < length (inputs_of b) = slice_get_within (inputs_of b) at.0 i at.1 in
    given_input b (map f (inputs_of b)) u sizes at.0 i at.1 (omega (arith, within, length-map (inputs_of b) f))
    ∙ get_or-map f (inputs_of b) at.0 0 false within
    ∙ ap f (get_or_from_slice_get (inputs_of b) at.0 i 0 at.1)

-- Each input of b takes the value of that which it is with.
module _ (m of_old of_new : Matching) (p q b : Drawing) (beside : AreBeside m of_old of_new p q b) (scan : TwoScans) (s t : Standing) where
  pub old_value : (x : Pair) → Contains of_old.inputs x → get_or (with_inputs p scan.old s).held.values x.old false
      ≡ value_for of_old.inputs of_new.inputs (with_inputs p scan.old s).held.values (with_inputs q scan.new t).held.values x.new
  old_value x pair = value_of_old of_old.inputs of_new.inputs (with_inputs p scan.old s).held.values (with_inputs q scan.new t).held.values beside.old.inputs.new_once x pair

  pub new_value : AgreeOnInputs m (with_inputs p scan.old s).held (with_inputs q scan.new t).held
      → (y : Pair) → Contains of_new.inputs y → get_or (with_inputs q scan.new t).held.values y.old false
      ≡ value_for of_old.inputs of_new.inputs (with_inputs p scan.old s).held.values (with_inputs q scan.new t).held.values y.new
  new_value agree y pair =
      value_of_new of_old.inputs of_new.inputs (with_inputs p scan.old s).held.values (with_inputs q scan.new t).held.values beside.new.inputs.new_once
      (λ x z here there same. let both = beside.inputs.shared x z here there same in agree both.0 (record { old = x.old; new = z.old }) (found_at m.inputs (record { old = x.old; new = z.old }) both))
      y pair

module _ (m of_old of_new : Matching) (p q b : Drawing) (sound : IsSound (diagram_of b)) (beside : AreBeside m of_old of_new p q b) where
  module _ (scan : TwoScans) (s t u : Standing) (sizes : length u.held.values ≡ length (diagram_of b).inputs) where
    with_old_alike : AgreeOnInputs of_old (with_inputs p scan.old s).held (with_inputs b (all_values of_old of_new p q b scan s t) u).held
    with_old_alike n x is =
        let pair = contained of_old.inputs n x is in
        let value = value_for of_old.inputs of_new.inputs (with_inputs p scan.old s).held.values (with_inputs q scan.new t).held.values in
        old_value m of_old of_new p q b beside scan s t x pair
        ∙ sym (takes value b u sizes x.new (All-contains (AreBoth true p b) of_old.inputs x beside.old.inputs.are_inputs pair).1)

    with_new_alike : AgreeOnInputs m (with_inputs p scan.old s).held (with_inputs q scan.new t).held
        → AgreeOnInputs of_new (with_inputs q scan.new t).held (with_inputs b (all_values of_old of_new p q b scan s t) u).held
    with_new_alike agree n y is =
        let pair = contained of_new.inputs n y is in
        let value = value_for of_old.inputs of_new.inputs (with_inputs p scan.old s).held.values (with_inputs q scan.new t).held.values in
        new_value m of_old of_new p q b beside scan s t agree y pair
        ∙ sym (takes value b u sizes y.new (All-contains (AreBoth true q b) of_new.inputs y beside.new.inputs.are_inputs pair).1)

  pub joined_runs : (scans : List TwoScans) (s t u : Standing) → length u.held.values ≡ length (diagram_of b).inputs → u.moment ≤ s.moment → AreRuns m p q scans s t
      → AreRuns of_old p b (map with_old (joined of_old of_new p q b scans s t)) s u
      × AreRuns of_new q b (map with_new (joined of_old of_new p q b scans s t)) t u
      × IsRun u.moment (map joined_scan (joined of_old of_new p q b scans s t))
  unfolding AreRuns
  joined_runs [] s t u sizes later runs = (tt, tt, tt)
  joined_runs (scan ∷ more) s t u sizes later runs =
      let all = all_values of_old of_new p q b scan s t in
      let after : u.moment ≤ scan.moment = omega (arith, later, runs.0) in
      let rest = joined_runs more (next p scan.moment scan.old s) (next q scan.moment scan.new t) (next b scan.moment all u)
      (next_sizes b sound scan.moment all u sizes) (omega arith) runs.4 in (
        (runs.0, after, runs.2, with_old_alike scan s t u sizes, rest.0),
        (runs.1, after, runs.2, with_new_alike scan s t u sizes runs.3, rest.1),
        (after, runs.2, rest.2),
      )
