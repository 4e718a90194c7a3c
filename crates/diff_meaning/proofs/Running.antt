-- Where one scan of each program keeps the agreement of states that count, all runs from there do.
use Rattle.std.proofs.Common.{◌∙◌, map, refl, subst, sym, ℕ, Bool, List, [], ◌∷◌}
use Rattle.diagram_program.specs.Program.{Drawing}
use Rattle.scan_cycle.specs.Programs.{IsSound, diagram_of}
use Rattle.scan_cycle.specs.Rung.{Held}
use Rattle.scan_cycle.specs.Runs.{OneScan, after_each}
use Rattle.scan_cycle.specs.Scan.{after_scan}
use Rattle.scan_cycle.specs.Standing.{Fits, IsStanding, Standing, fresh}
use Rattle.scan_cycle.proofs.Sizes.{size-given}
use Rattle.diff_matching.specs.Matching.{Agree, Matching, scanned}
use Rattle.diff_matching.specs.Runs.{AgreeAfterEach, AreRuns, HaveNoInput, TwoScans, new_scan, next, old_scan, with_inputs}
use Rattle.invariant_sets.proofs.ForEver.{scan_begun}
use Rattle.invariant_sets.proofs.Listed.{given_same}
use Rattle.invariant_cases.specs.Assuming.{Assumed, IsTrueIn, nothing}
use Rattle.invariant_sets.specs.Invariants.{AreAllowed, IsStayingAssuming, StaysAssuming}
use Rattle.invariant_sets.specs.declared.staying.Staying.{Staying}
use Rattle.invariant_runs.specs.Staying.{IsStayingOf, StaysSo}
use Rattle.invariant_runs.proofs.Running.{next_fits, next_stands}
use Rattle.invariant_runs.proofs.Steps.{so_begun}
use Rattle.diff_cases.specs.Assuming.{AreTrueIn, BothAssumed, assumed_of_both}
use Rattle.diff_meaning.specs.Counting.{Count, CountAssuming, StayFromFreshAssuming}
use Rattle.diff_meaning.specs.Laws.{AreEquivalentWhere}
use Rattle.diff_meaning.specs.declared.counted.Counted.{Counted}
use Rattle.diff_meaning.specs.declared.counted.CountedStates.{CountedStates}
use Rattle.diff_meaning.specs.declared.counted.CountedStates.TheVariants.{All, Reachable}

given_agree : (p q : Drawing) (m : Matching) → HaveNoInput m p q → (xs ys : List Bool) (s t : Standing) → Agree m s.held t.held
    → Agree m (with_inputs p xs s).held (with_inputs q ys t).held
given_agree p q m no_input xs ys s t h = record {
  variables = λ n x e.
      given_same (diagram_of p).inputs xs s.held.values x.old (no_input n x e).0 ∙ h.variables n x e
      ∙ sym (given_same (diagram_of q).inputs ys t.held.values x.new (no_input n x e).1);
  instances = h.instances;
  memories = h.memories;
}

given_fits : (p : Drawing) (inputs : List Bool) (s : Standing) → Fits p s → Fits p (with_inputs p inputs s)
given_fits p inputs s fits = record {
  values = size-given (diagram_of p).inputs inputs s.held.values ∙ fits.values;
  memories = fits.memories;
  kinds = fits.kinds;
}

given_stands : (p : Drawing) (inputs : List Bool) (s : Standing) → IsStanding s → IsStanding (with_inputs p inputs s)
given_stands p inputs s h = record { sound = h.sound; small = h.small }

-- A state of each program, which agree and are among those that count.
pub record AreCounted (c : Counted) (m : Matching) (p q : Drawing) (s t : Standing) : Type 0 where
  pub old_fits : Fits p s
  pub new_fits : Fits q t
  pub old_standing : IsStanding s
  pub new_standing : IsStanding t
  pub agree : Agree m s.held t.held
  pub among : Count c.states s.held t.held

-- States are still among those where inputs are given, and after a scan of each with inputs of which what is assumed is true.
pub record StillCount (a : BothAssumed) (states : CountedStates) (p q : Drawing) : Type 0 where
  pub given : (xs ys : List Bool) (s t : Standing) → Count states s.held t.held → Count states (with_inputs p xs s).held (with_inputs q ys t).held
  pub next : (moment : ℕ) (xs ys : List Bool) (s t : Standing) → Fits p s → Fits q t → IsStanding s → IsStanding t
      → AreTrueIn a (with_inputs p xs s).held (with_inputs q ys t).held → Count states s.held t.held
      → Count states (next p moment xs s).held (next q moment ys t).held

-- From any state in which it is so, one scan leaves it so: it is settled.
so_next : (p : Drawing) → StaysAssuming p → (a : Assumed) (start : Standing) (staying : Staying) → IsStayingAssuming p a start staying → (s : Standing)
    → Fits p s → IsStanding s → StaysSo staying s.held → (moment : ℕ) (inputs : List Bool) → IsTrueIn a (with_inputs p inputs s).held
    → StaysSo staying (next p moment inputs s).held
unfolding after_each
so_next p law a start staying is s fits standing stays moment inputs true_in =
    let still = law a s fits standing staying.steady is.steady.set stays.so staying.apart
    (record { outside = is.apart.outside; apart = stays.apart; excluded = is.apart.excluded }) is.steady.settled
    (record { moment = moment; inputs = inputs } ∷ []) (true_in, tt) in
    record { so = still.0; apart = still.1 }

-- What stays so from a state on is said of the program's own variables and instances.
of_program : (p : Drawing) (a : Assumed) (s : Standing) (staying : Staying) → IsStayingAssuming p a s staying → IsStayingOf p staying
of_program p a s staying is = record { set = is.steady.set; apart = is.apart.outside }

-- It is so in that state.
so_there : (p : Drawing) (a : Assumed) (s : Standing) (staying : Staying) → IsStayingAssuming p a s staying → StaysSo staying s.held
so_there p a s staying is = record { so = is.steady.so; apart = is.apart.apart }

-- Such states are still among those where they are so from the fresh ones on.
pub still_count : (p q : Drawing) → StaysAssuming p → StaysAssuming q → (a : BothAssumed) (states : CountedStates) → StayFromFreshAssuming a states p q → StillCount a states p q
still_count p q old_law new_law a All stay = record {
  given = λ xs ys s t among. tt;
  next = λ moment xs ys s t fits_s fits_t stands_s stands_t true_in among. tt;
}
still_count p q old_law new_law a (Reachable old new) stay = record {
  given = λ xs ys s t among. (
    so_begun p old (of_program p a.of_old (fresh p) old stay.0) xs s.held among.0,
    so_begun q new (of_program q a.of_new (fresh q) new stay.1) ys t.held among.1,
  );
  next = λ moment xs ys s t fits_s fits_t stands_s stands_t true_in among. (
    so_next p old_law a.of_old (fresh p) old stay.0 s fits_s stands_s among.0 moment xs true_in.0,
    so_next q new_law a.of_new (fresh q) new stay.1 t fits_t stands_t among.1 moment ys true_in.1,
  );
}

-- The fresh states are among those then.
pub fresh_count : (p q : Drawing) (a : BothAssumed) (states : CountedStates) → StayFromFreshAssuming a states p q → Count states (fresh p).held (fresh q).held
fresh_count p q a All stay = tt
fresh_count p q a (Reachable old new) stay = (so_there p a.of_old (fresh p) old stay.0, so_there q a.of_new (fresh q) new stay.1)

-- In each scan of both runs what is assumed is true.
abbrev pub AreBothAllowed : BothAssumed → Drawing → Drawing → List TwoScans → Standing → Standing → Type 0
AreBothAllowed a p q scans s t = AreAllowed p a.of_old (map old_scan scans) s.held × AreAllowed q a.of_new (map new_scan scans) t.held

module _ (p q : Drawing) (old_sound : IsSound (diagram_of p)) (new_sound : IsSound (diagram_of q)) (c : Counted) (m : Matching)
    (no_input : HaveNoInput m p q) (equal : AreEquivalentWhere (CountAssuming c) m p q) (still : StillCount (assumed_of_both c.assumed) c.states p q) where
  -- after one scan of each they agree
  one : (scan : TwoScans) (more : List TwoScans) (s t : Standing) → AreCounted c m p q s t → AreRuns m p q (scan ∷ more) s t
      → AreTrueIn (assumed_of_both c.assumed) (with_inputs p scan.old s).held (with_inputs q scan.new t).held
      → Agree m (next p scan.moment scan.old s).held (next q scan.moment scan.new t).held
  unfolding AreRuns
  one scan more s t are runs true_in =
      let left = equal scan.moment (with_inputs p scan.old s) (with_inputs q scan.new t) (record {
        old_fits = given_fits p scan.old s are.old_fits;
        new_fits = given_fits q scan.new t are.new_fits;
        old_standing = given_stands p scan.old s are.old_standing;
        new_standing = given_stands q scan.new t are.new_standing;
        agree = given_agree p q m no_input scan.old scan.new s t are.agree;
        inputs = runs.3;
        old_later = runs.0;
        new_later = runs.1;
        small = runs.2;
      }) (record { among = still.given scan.old scan.new s t are.among; true_in = true_in }) in
      subst (λ (h : Held). Agree m h (next q scan.moment scan.new t).held) (scan_begun p scan.moment scan.old s.held)
      (subst (λ (h : Held). Agree m (scanned p scan.moment (with_inputs p scan.old s)) h) (scan_begun q scan.moment scan.new t.held) left)

  pub agree_after : (scans : List TwoScans) (s t : Standing) → AreCounted c m p q s t → AreRuns m p q scans s t → AreBothAllowed (assumed_of_both c.assumed) p q scans s t
      → AgreeAfterEach m p q scans s t
  unfolding AreRuns AgreeAfterEach
  agree_after [] s t are runs allowed = tt
  agree_after (scan ∷ more) s t are runs allowed =
      let agree = one scan more s t are runs (allowed.0.0, allowed.1.0) in (
        agree,
        agree_after more (next p scan.moment scan.old s) (next q scan.moment scan.new t) (record {
          old_fits = next_fits p old_sound (record { moment = scan.moment; inputs = scan.old }) s are.old_fits;
          new_fits = next_fits q new_sound (record { moment = scan.moment; inputs = scan.new }) t are.new_fits;
          old_standing = next_stands p old_sound (record { moment = scan.moment; inputs = scan.old }) s are.old_standing runs.0 runs.2;
          new_standing = next_stands q new_sound (record { moment = scan.moment; inputs = scan.new }) t are.new_standing runs.1 runs.2;
          agree = agree;
          among = still.next scan.moment scan.old scan.new s t are.old_fits are.new_fits are.old_standing are.new_standing (allowed.0.0, allowed.1.0) are.among;
        }) runs.4 (allowed.0.1, allowed.1.1),
      )

-- Where nothing is assumed any scans are allowed.
pub all_allowed : (p : Drawing) (scans : List OneScan) (h : Held) → AreAllowed p nothing scans h
all_allowed p [] h = tt
all_allowed p (scan ∷ more) h = (refl, all_allowed p more (after_scan (diagram_of p) scan.moment scan.inputs h))
