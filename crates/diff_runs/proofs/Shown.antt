-- What a run of b shows, the runs of the two programs show that it has in it.
use Rattle.std.proofs.Common.{◌≡◌, ◌∙◌, ap, arith, false, length, map, not, refl, true, ◌&&◌, Bool, List, [], ◌∷◌, cond}
use Rattle.std.specs.List.{All}
use Rattle.std.proofs.lemmas.List.{length-map, length-replicate}
use Rattle.std.proofs.lemmas.Simd.{map-map}
use Rattle.diagram_program.specs.Program.{Drawing, memories_of}
use Rattle.scan_cycle.specs.Programs.{IsSound, diagram_of}
use Rattle.scan_cycle.specs.Runs.{OneScan}
use Rattle.scan_cycle.specs.Standing.{Fits, fresh}
use Rattle.invariant_sets.specs.Invariants.{AllowsGiven}
use Rattle.diff_runs.specs.Assuming.{over_inputs}
use Rattle.diff_runs.specs.Laws.{ShownWhereSwitchedOn}
use Rattle.diff_runs.specs.Pulling.{inputs_of, pulled}
use Rattle.diff_runs.specs.Showing.{is_on, left_by}
use Rattle.diff_matching.specs.Runs.{new_scan, old_scan}
use Rattle.diff_runs.proofs.Alike.{alike_after}
use Rattle.diff_runs.proofs.Inputs.{fresh_sizes}
use Rattle.diff_runs.proofs.Joint.{new_allowed, old_allowed}
use Rattle.diff_runs.proofs.Parting.{both_runs, part_runs, part_scan}

same_scans : (scans : List OneScan) → map (λ scan. record { moment = scan.moment; inputs = scan.inputs }) scans ≡ scans
same_scans [] = refl
same_scans (scan ∷ more) = ap (λ rest. scan ∷ rest) (same_scans more)

-- ---- two values that are as the question asks, each or not

abbrev so : Bool → Bool → Bool
so value x = cond value x (not x)

first_is : (value x y : Bool) → (so value x && (so (not value) y && true)) ≡ true → x ≡ value
first_is true true y on = refl
first_is true false y on = cc
first_is false true y on = cc
first_is false false y on = refl

second_is : (value x y : Bool) → (so value x && (so (not value) y && true)) ≡ true → y ≡ not value
second_is true true true on = cc
second_is true true false on = refl
second_is true false y on = cc
second_is false true y on = cc
second_is false false true on = refl
second_is false false false on = cc

fresh_fits : (p : Drawing) → Fits p (fresh p)
fresh_fits p = record {
  values = length-map p.decls.vars (λ v. v.initial);
  memories = length-replicate (memories_of p) false;
  kinds = refl;
}

pub shown : (p q b : Drawing) → IsSound (diagram_of p) → IsSound (diagram_of q) → IsSound (diagram_of b) → AllowsGiven p → AllowsGiven q
    → ShownWhereSwitchedOn p q b
shown p q b old_sound new_sound sound old_allows new_allows m of_old of_new beside x there are_in a old_places new_places joint are value scans switched =
    let as_many : All (λ (scan : OneScan). length scan.inputs ≡ length (inputs_of b)) scans = λ k d less. (switched.asked.given k d less).all in
    let old_runs = part_runs of_old p b old_sound sound beside.old old_places are.places_of_old scans 0 switched.asked.timed as_many (fresh p) (fresh b)
    (fresh_sizes p) (fresh_sizes b) (omega arith) (omega arith) in
    let new_runs = part_runs of_new q b new_sound sound beside.new new_places are.places_of_new scans 0 switched.asked.timed as_many (fresh q) (fresh b)
    (fresh_sizes q) (fresh_sizes b) (omega arith) (omega arith) in
    let left = left_by b scans in
    let on = switched.on in
    record {
      shows = record {
        some = omega (arith, switched.some, length-map scans (pulled old_places new_places));
        runs = both_runs m of_old of_new p q b beside old_places new_places scans (fresh p) (fresh q) (fresh b) old_runs new_runs;
        of_old = ap (λ ss. is_on x.old (left_by p ss)) (map-map old_scan (pulled old_places new_places) scans)
            ∙ alike_after of_old p b beside.old.agree (part_scan old_places) scans switched.some old_runs x.old there.old are_in.old
            ∙ ap (λ ss. is_on there.old (left_by b ss)) (same_scans scans)
            ∙ first_is value (is_on there.old left) (is_on there.new left) on;
        of_new = ap (λ ss. is_on x.new (left_by q ss)) (map-map new_scan (pulled old_places new_places) scans)
            ∙ alike_after of_new q b beside.new.agree (part_scan new_places) scans switched.some new_runs x.new there.new are_in.new
            ∙ ap (λ ss. is_on there.new (left_by b ss)) (same_scans scans)
            ∙ second_is value (is_on there.old left) (is_on there.new left) on;
      };
      assumed = record {
        old = old_allows (over_inputs p a.old) refl (fresh p) (fresh_fits p) (map old_scan (map (pulled old_places new_places) scans))
            (old_allowed a of_old of_new p q b old_places new_places joint are there value scans switched.asked.given);
        new = new_allows (over_inputs q a.new) refl (fresh q) (fresh_fits q) (map new_scan (map (pulled old_places new_places) scans))
            (new_allowed a of_old of_new p q b old_places new_places joint are there value scans switched.asked.given);
      };
    }
