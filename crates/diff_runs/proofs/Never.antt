-- What no run of b shows, no runs of the two programs do.
use Rattle.std.proofs.Common.{◌≡◌, ◌∙◌, ap, arith, false, length, map, not, refl, sym, true, ℕ, ◌<◌, ◌&&◌, Bool, List, [], ◌∷◌, Option}
use Rattle.std.specs.List.{All}
use Rattle.std.proofs.lemmas.List.{length-map}
use Rattle.std.proofs.lemmas.List.Elements.{All-cons, All-nil}
use Rattle.std.proofs.lemmas.Simd.{map-map}
use Rattle.st_expression.specs.declared.expression.Expression.{Expression}
use Rattle.diagram_program.specs.Program.{Drawing}
use Rattle.scan_cycle.specs.Programs.{IsSound, diagram_of}
use Rattle.scan_cycle.specs.Runs.{OneScan}
use Rattle.scan_cycle.specs.Standing.{Standing, fresh}
use Rattle.assume_truth.specs.Truth.{is_allowed}
use Rattle.invariant_sets.specs.Invariants.{AreAllowed}
use Rattle.reach_runs.proofs.GivenLaws.{others_keep}
use Rattle.reach_runs.specs.Asking.{Gives, IsAsked, is_on_after}
use Rattle.diff_matching.specs.Matching.{Matching}
use Rattle.diff_matching.specs.Runs.{AreRuns, TwoScans, new_scan, next, old_scan, with_inputs}
use Rattle.diff_runs.specs.Asking.{AreIn, question}
use Rattle.diff_runs.specs.Beside.{AreBeside}
use Rattle.diff_runs.specs.Assuming.{AreAssumed, Assumptions, over_inputs}
use Rattle.diff_runs.specs.Laws.{AreJoined, NeverShownWhereNeverOn, NotShownWhereStaysOff}
use Rattle.diff_runs.specs.Pulling.{inputs_of}
use Rattle.diff_runs.specs.Showing.{AreAlikeAfter, is_on, left_by}
use Rattle.diff_runs.specs.declared.symbols.TwoSymbols.{TwoSymbols}
use Rattle.diff_runs.proofs.Alike.{alike_after}
use Rattle.diff_runs.proofs.Inputs.{fresh_sizes, no_input}
use Rattle.diff_runs.proofs.Joining.{Joined, all_values, joined, joined_runs, joined_scan, joined_two, new_value, old_value, with_new, with_old}
use Rattle.diff_runs.proofs.Joint.{joint_true}
use Rattle.diff_runs.proofs.Pairs.{value_for}

-- ---- the run of b is asked about

gives : (b : Drawing) (there : TwoSymbols) (value : Bool) (joint : Option Expression) (f : ℕ → Bool) → is_allowed joint (map f (inputs_of b)) ≡ true
    → Gives (question b there value joint) (map f (inputs_of b))
gives b there value joint f allowed = record {
  all = length-map (inputs_of b) f;
  stored = λ var other. others_keep (diagram_of b).inputs (map f (inputs_of b)) (fresh b).held.values var (no_input b var other);
  allowed = allowed;
}

module _ (m of_old of_new : Matching) (p q b : Drawing) (beside : AreBeside m of_old of_new p q b) (a : Assumptions) (old_places new_places : List ℕ) (joint : Option Expression)
    (are : AreJoined a of_old of_new p q b old_places new_places joint) (there : TwoSymbols) (value : Bool) where
  all_given : (scans : List TwoScans) (s t : Standing) → AreRuns m p q scans s t
      → AreAllowed p (over_inputs p a.old) (map old_scan scans) s.held → AreAllowed q (over_inputs q a.new) (map new_scan scans) t.held
      → All (λ scan. Gives (question b there value joint) scan.inputs) (map joined_scan (joined of_old of_new p q b scans s t))
  unfolding AreRuns
  all_given [] s t runs old new = All-nil (λ scan. Gives (question b there value joint) scan.inputs)
  all_given (scan ∷ more) s t runs old new =
      let xs = (with_inputs p scan.old s).held.values in
      let ys = (with_inputs q scan.new t).held.values in
      let value_of = value_for of_old.inputs of_new.inputs xs ys in
      All-cons (λ scan. Gives (question b there value joint) scan.inputs)
      (record { moment = scan.moment; inputs = all_values of_old of_new p q b scan s t })
      (map joined_scan (joined of_old of_new p q b more (next p scan.moment scan.old s) (next q scan.moment scan.new t)))
      (gives b there value joint value_of (joint_true a of_old of_new p q b old_places new_places joint are value_of xs ys
      (old_value m of_old of_new p q b beside scan s t) (new_value m of_old of_new p q b beside scan s t runs.3) old.0 new.0))
      (all_given more (next p scan.moment scan.old s) (next q scan.moment scan.new t) runs.4 old.1 new.1)

-- ---- two values of which neither is ON alone

are_same : (x y : Bool) → (x && (not y && true)) ≡ false → (not x && (y && true)) ≡ false → x ≡ y
are_same true true first second = refl
are_same true false first second = cc
are_same false true first second = cc
are_same false false first second = refl

-- Runs after which no run of b of as many scans leaves the two symbols different.
alike : (p q b : Drawing) → IsSound (diagram_of b) → (m of_old of_new : Matching) → AreBeside m of_old of_new p q b → (x there : TwoSymbols) → AreIn of_old of_new x there
    → (a : Assumptions) (old_places new_places : List ℕ) (joint : Option Expression) → AreJoined a of_old of_new p q b old_places new_places joint
    → (scans : List TwoScans) → 0 < length scans → AreRuns m p q scans (fresh p) (fresh q) → AreAssumed p q a scans
    → ((value : Bool) (run : List OneScan) → IsAsked (question b there value joint) run → 0 < length run → length run ≡ length scans
    → is_on_after (question b there value joint) run ≡ false)
    → AreAlikeAfter p q x scans
alike p q b sound m of_old of_new beside x there are_in a old_places new_places joint are scans some runs assumed off =
    let all = joined of_old of_new p q b scans (fresh p) (fresh q) in
    let ran = joined_runs m of_old of_new p q b sound beside scans (fresh p) (fresh q) (fresh b) (fresh_sizes b) (omega arith) runs in
    let two : map (λ (y : Joined). y.two) all ≡ scans = joined_two of_old of_new p q b scans (fresh p) (fresh q) in
    let as_many : length all ≡ length scans = sym (length-map all (λ (y : Joined). y.two)) ∙ ap (λ (ss : List TwoScans). length ss) two in
    let many : length (map joined_scan all) ≡ length scans = length-map all joined_scan ∙ as_many in
    let none = λ (value : Bool). off value (map joined_scan all) (record { timed = ran.2; given = all_given m of_old of_new p q b beside a old_places new_places joint are there value scans (fresh p) (fresh q) runs assumed.old assumed.new })
    (omega (arith, some, many)) many in
    let left = left_by b (map joined_scan all) in
    ap (λ ss. is_on x.old (left_by p ss)) (ap (map old_scan) (sym two) ∙ map-map old_scan (λ (y : Joined). y.two) all)
    ∙ alike_after of_old p b beside.old.agree with_old all (omega (arith, some, as_many)) ran.0 x.old there.old are_in.old
    ∙ are_same (is_on there.old left) (is_on there.new left) (none true) (none false)
    ∙ sym (
    ap (λ ss. is_on x.new (left_by q ss)) (ap (map new_scan) (sym two) ∙ map-map new_scan (λ (y : Joined). y.two) all)
    ∙ alike_after of_new q b beside.new.agree with_new all (omega (arith, some, as_many)) ran.1 x.new there.new are_in.new
    )

pub never_shown : (p q b : Drawing) → IsSound (diagram_of b) → NeverShownWhereNeverOn p q b
never_shown p q b sound m of_old of_new beside x there are_in a old_places new_places joint are never_on never_off scans some runs assumed =
    alike p q b sound m of_old of_new beside x there are_in a old_places new_places joint are scans some runs assumed
    (λ value run asked any as_many. elim value as (λ v. IsAsked (question b there v joint) run → is_on_after (question b there v joint) run ≡ false) [
      | true ↦ λ is. never_on run is any
      | false ↦ λ is. never_off run is any
    ] asked)

pub not_shown : (p q b : Drawing) → IsSound (diagram_of b) → NotShownWhereStaysOff p q b
not_shown p q b sound m of_old of_new beside x there are_in a old_places new_places joint are on_most off_most stays_on stays_off scans some few runs assumed =
    alike p q b sound m of_old of_new beside x there are_in a old_places new_places joint are scans some runs assumed
    (λ value run asked any as_many. elim value as (λ v. IsAsked (question b there v joint) run → is_on_after (question b there v joint) run ≡ false) [
      | true ↦ λ is. stays_on run is any (omega (arith, few, as_many))
      | false ↦ λ is. stays_off run is any (omega (arith, few, as_many))
    ] asked)
