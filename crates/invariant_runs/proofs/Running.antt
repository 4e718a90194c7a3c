-- What stays so is so in each state that a run reaches.
use Rattle.std.proofs.Common.{◌≡◌, ◌∙◌, ap, refl, subst, sym, ℕ, ◌<◌, ◌≤◌, ◌^◌, Bool, List, [], ◌∷◌, map}
use Rattle.diagram_program.specs.Program.{Drawing}
use Rattle.scan_cycle.specs.Programs.{IsSound, diagram_of}
use Rattle.scan_cycle.specs.Rung.{Held}
use Rattle.scan_cycle.specs.RungByRung.{ArePossible, scanned, shape}
use Rattle.scan_cycle.specs.Scan.{after_scan, given}
use Rattle.scan_cycle.specs.Standing.{Fits, IsStanding, Standing}
use Rattle.scan_cycle.proofs.ByList.{scanned_is}
use Rattle.scan_cycle.proofs.Possible.{after_sound, scanned_possible, scanned_shapes}
use Rattle.scan_cycle.proofs.Sizes.{scan_lengths}
use Rattle.invariant_sets.specs.Invariants.{StaysAssuming, StaysForEver}
use Rattle.scan_cycle.specs.Runs.{IsRun, OneScan, after_each}
use Rattle.invariant_sets.specs.Never.{IsSo}
use Rattle.invariant_cases.specs.Allowing.{AreApart}
use Rattle.invariant_runs.specs.Reached.{RunsStay, RunsStayAssuming, reached}

-- the state that one scan leaves
abbrev pub next : Drawing → OneScan → Standing → Standing
next p scan s = record s { held = after_scan (diagram_of p) scan.moment scan.inputs s.held; moment = scan.moment }

held_is : (p : Drawing) (scans : List OneScan) (s : Standing) → (reached p scans s).held ≡ after_each (diagram_of p) scans s.held
unfolding after_each
held_is p [] s = refl
held_is p (scan ∷ more) s = held_is p more (next p scan s)

module _ (p : Drawing) (sound : IsSound (diagram_of p)) where
  by_rungs : (now : ℕ) (inputs : List Bool) (h : Held)
      → after_scan (diagram_of p) now inputs h ≡ (scanned (diagram_of p) now (record { values = given (diagram_of p).inputs inputs h.values; kept = h.kept }) (diagram_of p).rungs).held
  by_rungs now inputs h =
      let d = diagram_of p in
      sym (scanned_is d sound.forward now (record { values = given d.inputs inputs h.values; kept = h.kept }))

  pub next_fits : (scan : OneScan) (s : Standing) → Fits p s → Fits p (next p scan s)
  next_fits scan s fits =
      let d = diagram_of p in
      let start : Held = record { values = given d.inputs scan.inputs s.held.values; kept = s.held.kept } in
      let lengths = scan_lengths d scan.moment d.inputs scan.inputs s.held start (next p scan s).held d.rungs refl (by_rungs scan.moment scan.inputs s.held) in
      record { values = lengths.values ∙ fits.values; memories = lengths.memories ∙ fits.memories; kinds = fits.kinds }

  pub next_stands : (scan : OneScan) (s : Standing) → IsStanding s → s.moment ≤ scan.moment → scan.moment < 2 ^ 64 → IsStanding (next p scan s)
  next_stands scan s standing later small =
      let d = diagram_of p in
      let now = scan.moment in
      let start : Held = record { values = given d.inputs scan.inputs s.held.values; kept = s.held.kept } in
      let is = by_rungs now scan.inputs s.held in
      record {
        sound = after_sound s.moment now s.kinds s.held.kept.blocks (next p scan s).held.kept.blocks standing.sound later
            (ap (λ (h : Held). map shape h.kept.blocks) is ∙ scanned_shapes d now start d.rungs)
            (λ can. subst (λ (h : Held). ArePossible now h.kept.blocks) (sym is) (scanned_possible d sound now start can d.rungs));
        small = small;
      }

  fits_after : (scans : List OneScan) (s : Standing) → Fits p s → Fits p (reached p scans s)
  fits_after [] s fits = fits
  fits_after (scan ∷ more) s fits = fits_after more (next p scan s) (next_fits scan s fits)

  stands_after : (scans : List OneScan) (s : Standing) → IsStanding s → IsRun s.moment scans → IsStanding (reached p scans s)
  stands_after [] s standing run = standing
  stands_after (scan ∷ more) s standing run = stands_after more (next p scan s) (next_stands scan s standing run.0 run.1) run.2

pub runs_stay_assuming : (p : Drawing) → IsSound (diagram_of p) → StaysAssuming p → RunsStayAssuming p
runs_stay_assuming p sound law a s fits standing staying is scans run allowed =
    let held = held_is p scans s in
    let still = law a s fits standing staying.steady is.steady.set is.steady.so staying.apart is.apart is.steady.settled scans allowed in
    record {
      fits = fits_after p sound scans s fits;
      standing = stands_after p sound scans s standing run;
      stays = record {
        so = subst (λ (h : Held). IsSo staying.steady h) (sym held) still.0;
        apart = subst (λ (h : Held). AreApart staying.apart h) (sym held) still.1;
      };
    }

pub runs_stay : (p : Drawing) → IsSound (diagram_of p) → StaysForEver p → RunsStay p
runs_stay p sound law s fits standing staying is scans run =
    let held = held_is p scans s in
    let still = law s fits standing staying.steady is.steady.set is.steady.so staying.apart is.apart is.steady.settled scans in
    record {
      fits = fits_after p sound scans s fits;
      standing = stands_after p sound scans s standing run;
      stays = record {
        so = subst (λ (h : Held). IsSo staying.steady h) (sym held) still.0;
        apart = subst (λ (h : Held). AreApart staying.apart h) (sym held) still.1;
      };
    }
