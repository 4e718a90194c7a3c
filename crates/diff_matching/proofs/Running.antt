-- Where one scan of each program keeps the agreement, all runs do.
use Rattle.std.proofs.Common.{◌≡◌, ◌∙◌, ap, refl, subst, sym, ℕ, ◌<◌, ◌≤◌, ◌^◌, Bool, true, false, List, [], ◌∷◌, map, get_or, zero, suc}
use Rattle.diagram_program.specs.Program.{Drawing}
use Rattle.scan_cycle.specs.Programs.{IsSound, diagram_of}
use Rattle.scan_cycle.specs.Rung.{Held}
use Rattle.scan_cycle.specs.RungByRung.{ArePossible, scanned as by_rung, shape}
use Rattle.scan_cycle.specs.Scan.{after_scan, evaluated_from, given}
use Rattle.scan_cycle.specs.Standing.{Fits, IsStanding, Standing}
use Rattle.scan_cycle.proofs.ByList.{scanned_is}
use Rattle.scan_cycle.proofs.Possible.{after_sound, scanned_possible, scanned_shapes}
use Rattle.scan_cycle.proofs.Sizes.{scan_lengths, size-given}
use Rattle.diff_matching.specs.Matching.{Agree, Matching, scanned}
use Rattle.diff_matching.specs.Runs.{AgreeAfterEach, AreRuns, HaveNoInput, RunsAgree, next, with_inputs}

-- a scan that gives no inputs leaves all values as they are before it
given_none : (flags vs : List Bool) → given flags [] vs ≡ vs
given_none [] vs = refl
given_none (true ∷ flags) [] = refl
given_none (false ∷ flags) [] = refl
given_none (true ∷ flags) (v ∷ vs) = ap (λ ws. v ∷ ws) (given_none flags vs)
given_none (false ∷ flags) (v ∷ vs) = ap (λ ws. v ∷ ws) (given_none flags vs)

on_off : {A : Type 0} → true ≡ false → A
on_off e = cc

-- a variable that is no input keeps its value
given_same : (flags xs vs : List Bool) (i : ℕ) → get_or flags i false ≡ false → get_or (given flags xs vs) i false ≡ get_or vs i false
given_same [] xs vs i e = refl
given_same (true ∷ flags) xs [] i e = refl
given_same (false ∷ flags) xs [] i e = refl
given_same (true ∷ flags) [] (v ∷ vs) zero e = on_off e
given_same (true ∷ flags) (x ∷ xs) (v ∷ vs) zero e = on_off e
given_same (true ∷ flags) [] (v ∷ vs) (suc i) e = given_same flags [] vs i e
given_same (true ∷ flags) (x ∷ xs) (v ∷ vs) (suc i) e = given_same flags xs vs i e
given_same (false ∷ flags) xs (v ∷ vs) zero e = refl
given_same (false ∷ flags) xs (v ∷ vs) (suc i) e = given_same flags xs vs i e

given_agree : (p q : Drawing) (m : Matching) → HaveNoInput m p q → (xs ys : List Bool) (s t : Standing) → Agree m s.held t.held
    → Agree m (with_inputs p xs s).held (with_inputs q ys t).held
given_agree p q m no_input xs ys s t h = record {
  variables = λ n x e.
      given_same (diagram_of p).inputs xs s.held.values x.old (no_input n x e).0 ∙ h.variables n x e
      ∙ sym (given_same (diagram_of q).inputs ys t.held.values x.new (no_input n x e).1);
  instances = h.instances;
  memories = h.memories;
}

module _ (p : Drawing) (sound : IsSound (diagram_of p)) where
  by_rungs : (now : ℕ) (inputs : List Bool) (h : Held)
      → after_scan (diagram_of p) now inputs h ≡ (by_rung (diagram_of p) now (record { values = given (diagram_of p).inputs inputs h.values; kept = h.kept }) (diagram_of p).rungs).held
  by_rungs now inputs h =
      let d = diagram_of p in
      sym (scanned_is d sound.forward now (record { values = given d.inputs inputs h.values; kept = h.kept }))

  next_fits : (now : ℕ) (inputs : List Bool) (s : Standing) → Fits p s → Fits p (next p now inputs s)
  next_fits now inputs s fits =
      let d = diagram_of p in
      let start : Held = record { values = given d.inputs inputs s.held.values; kept = s.held.kept } in
      let lengths = scan_lengths d now d.inputs inputs s.held start (next p now inputs s).held d.rungs refl (by_rungs now inputs s.held) in
      record { values = lengths.values ∙ fits.values; memories = lengths.memories ∙ fits.memories; kinds = fits.kinds }

  next_stands : (now : ℕ) (inputs : List Bool) (s : Standing) → IsStanding s → s.moment ≤ now → now < 2 ^ 64 → IsStanding (next p now inputs s)
  next_stands now inputs s standing later small =
      let d = diagram_of p in
      let start : Held = record { values = given d.inputs inputs s.held.values; kept = s.held.kept } in
      let is = by_rungs now inputs s.held in
      record {
        sound = after_sound s.moment now s.kinds s.held.kept.blocks (next p now inputs s).held.kept.blocks standing.sound later
            (ap (λ (h : Held). map shape h.kept.blocks) is ∙ scanned_shapes d now start d.rungs)
            (λ can. subst (λ (h : Held). ArePossible now h.kept.blocks) (sym is) (scanned_possible d sound now start can d.rungs));
        small = small;
      }

-- giving the inputs first and then none
scan_is : (p : Drawing) (now : ℕ) (inputs : List Bool) (s : Standing) → scanned p now (with_inputs p inputs s) ≡ after_scan (diagram_of p) now inputs s.held
scan_is p now inputs s =
    let d = diagram_of p in
    ap (λ vs. evaluated_from d now d.rungs 0 (record { values = vs; kept = s.held.kept })) (given_none d.inputs (given d.inputs inputs s.held.values))

given_fits : (p : Drawing) (inputs : List Bool) (s : Standing) → Fits p s → Fits p (with_inputs p inputs s)
given_fits p inputs s fits = record {
  values = size-given (diagram_of p).inputs inputs s.held.values ∙ fits.values;
  memories = fits.memories;
  kinds = fits.kinds;
}

given_stands : (p : Drawing) (inputs : List Bool) (s : Standing) → IsStanding s → IsStanding (with_inputs p inputs s)
given_stands p inputs s h = record { sound = h.sound; small = h.small }

pub runs_agree : (p q : Drawing) → IsSound (diagram_of p) → IsSound (diagram_of q) → RunsAgree p q
unfolding AreRuns AgreeAfterEach
runs_agree p q old_sound new_sound m no_input equal s t fits_s fits_t stands_s stands_t agree [] runs = tt
runs_agree p q old_sound new_sound m no_input equal s t fits_s fits_t stands_s stands_t agree (scan ∷ more) runs =
    let shared = equal scan.moment (with_inputs p scan.old s) (with_inputs q scan.new t) (record {
      old_fits = given_fits p scan.old s fits_s;
      new_fits = given_fits q scan.new t fits_t;
      old_standing = given_stands p scan.old s stands_s;
      new_standing = given_stands q scan.new t stands_t;
      agree = given_agree p q m no_input scan.old scan.new s t agree;
      inputs = runs.3;
      old_later = runs.0;
      new_later = runs.1;
      small = runs.2;
    }) in
    let now : Agree m (next p scan.moment scan.old s).held (next q scan.moment scan.new t).held =
    subst (λ (h : Held). Agree m h (next q scan.moment scan.new t).held) (scan_is p scan.moment scan.old s)
    (subst (λ (h : Held). Agree m (scanned p scan.moment (with_inputs p scan.old s)) h) (scan_is q scan.moment scan.new t) shared) in (
      now,
      runs_agree p q old_sound new_sound m no_input equal (next p scan.moment scan.old s) (next q scan.moment scan.new t)
          (next_fits p old_sound scan.moment scan.old s fits_s) (next_fits q new_sound scan.moment scan.new t fits_t)
          (next_stands p old_sound scan.moment scan.old s stands_s runs.0 runs.2) (next_stands q new_sound scan.moment scan.new t stands_t runs.1 runs.2)
          now more runs.4,
    )
