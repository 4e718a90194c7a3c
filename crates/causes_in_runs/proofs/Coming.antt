-- The state before the last scan of a run that comes to a number, with the inputs that this scan gives, leads to the number.
use Rattle.std.proofs.Common.{◌≡◌, ◌∙◌, ap, refl, sym, subst, arith, ℕ, suc, ◌+◌, ◌-◌, ◌<◌, ◌≤◌, ◌^◌, ◌==◌, ◌&&◌, Bool, true, false, not, cond, List, [], ◌∷◌, Option, Some, None, length, map, get_or}
use Rattle.std.specs.List.{list_all, range_with_len}
use Rattle.std.specs.Prelude.{position}
use Rattle.std.proofs.lemmas.List.Elements.{All-cons, All-nil}
use Rattle.std.proofs.lemmas.Bool.Decides.{nat_tests}
use Rattle.std.proofs.lemmas.List.Folds.{list_all_at}
use Rattle.std.proofs.lemmas.List.FromFn.{get_or-map-range_with_len, length-map-range_with_len}
use Rattle.std.proofs.lemmas.List.Quantifiers.{position-Some}
use Rattle.st_expression.specs.declared.expression.Expression.{Expression}
use Rattle.diagram_program.specs.Program.{Drawing, IsWellFormed}
use Rattle.scan_cycle.specs.Programs.{IsSound, diagram_of}
use Rattle.scan_cycle.specs.Rung.{Held}
use Rattle.scan_cycle.specs.Runs.{IsRun, OneScan, after_each}
use Rattle.scan_cycle.specs.Scan.{after_scan, given}
use Rattle.scan_cycle.specs.Standing.{Fits, IsStanding, Standing}
use Rattle.scan_cycle.proofs.Sizes.{size-given}
use Rattle.causes_query.specs.Assignment.{bit_of}
use Rattle.causes_query.specs.Tests.{is_input_variable}
use Rattle.causes_query.proofs.Asking.{inputs_of}
use Rattle.assume_truth.specs.Truth.{is_allowed}
use Rattle.invariant_cases.specs.Assuming.{Assumed, stored_inputs}
use Rattle.invariant_sets.specs.Invariants.{AllowsGiven, IsGivenAllowed, input_numbers}
use Rattle.invariant_sets.specs.declared.staying.Staying.{Staying}
use Rattle.invariant_sets.proofs.ForEver.{begun, begun_apart, holds_begun, scan_begun, standing_holds}
use Rattle.causes_any_state.specs.Numbers.{HasBits, bit_above}
use Rattle.causes_any_state.specs.Possible.{AreStatesOf, IsBefore, MayBeOf, MayStay, SomeLeavesBy}
use Rattle.invariant_runs.specs.Reached.{reached}
use Rattle.causes_any_state.specs.declared.before.Before.{Before}
use Rattle.causes_any_state.specs.declared.before.Before.TheVariants.{Any}
use Rattle.causes_any_state.specs.declared.states.States.{States}
use Rattle.causes_any_state.proofs.Asking.{cause_is, none_open}
use Rattle.invariant_runs.proofs.Running.{next, next_fits, next_stands}
use Rattle.reach_runs.specs.Asking.{is_so}
use Rattle.reach_runs.specs.declared.target.Literal.{Literal}
use Rattle.causes_in_runs.specs.Leading.{RunsLead}
use Rattle.causes_in_runs.specs.Rows.{AreAsAssumed, row_target, value_of}
use Rattle.causes_in_runs.proofs.Assigned.{counted_there, some_leaves}
use Rattle.causes_in_runs.proofs.Inputs.{input_after}

off_on : false ≡ true → ⊥
off_on e = cc

must_be_on : (b : Bool) → (b ≡ false → ⊥) → b ≡ true
must_be_on true h = refl
must_be_on false h = absurd (h refl)

must_be_off : (b : Bool) → (b ≡ true → ⊥) → b ≡ false
must_be_off true h = absurd (h refl)
must_be_off false h = refl

each : {X : Type 0} (q : X → Bool) (xs : List X) (d : X) (i : ℕ) → i < length xs → list_all q xs ≡ true → q (get_or xs i d) ≡ true
each q xs d i lt all = must_be_on (q (get_or xs i d)) (λ off. off_on (sym (list_all_at q xs i d lt off) ∙ all))

some_same : (x y : Bool) → Some x ≡ Some y → x ≡ y
some_same x y e = cc

same_number : (x y : ℕ) → (x == y) ≡ true → x ≡ y
same_number x y h = grind (arith, nat_tests)

-- ---- what the target says
and_left : (a b : Bool) → (a && b) ≡ true → a ≡ true
and_left true b h = refl
and_left false b h = cc

and_right : (a b : Bool) → (a && b) ≡ true → b ≡ true
and_right true b h = h
and_right false b h = cc

value_is : (value x : Bool) → cond value x (not x) ≡ true → x ≡ value
value_is true x h = h
value_is false true h = cc
value_is false false h = refl

module _ (coil : ℕ) (listed : List ℕ) (n : ℕ) (h : Held) (on : list_all (is_so h) (row_target coil listed n) ≡ true) where
  abbrev bit_at : ℕ → Literal
  bit_at place = value_of (get_or listed place 0) (bit_of (length listed) place n)

  abbrev bits : List Literal
  bits = map bit_at (range_with_len 0 (length listed))

  coil_on : get_or h.values coil false ≡ true
  coil_on = and_left (is_so h (value_of coil true)) (list_all (is_so h) bits) on

  bit_is : (i : ℕ) → i < length listed → get_or h.values (get_or listed i 0) false ≡ bit_of (length listed) i n
  bit_is i lt =
      let all : list_all (is_so h) bits ≡ true = and_right (is_so h (value_of coil true)) (list_all (is_so h) bits) on in
      value_is (bit_of (length listed) i n) (get_or h.values (get_or listed i 0) false)
      (subst (λ (l : Literal). is_so h l ≡ true) (get_or-map-range_with_len bit_at 0 (length listed) i i (value_of 0 false) lt (omega arith))
      (each (is_so h) bits (value_of 0 false) i (omega (arith, many, lt)) all))
    where
      many : length bits ≡ length listed
      many = length-map-range_with_len bit_at 0 (length listed)

-- ---- with the inputs given, it still is so what stays so
stays_given : (p : Drawing) (s : Standing) → Fits p s → IsStanding s → (staying : Option Staying) → MayBeOf p staying → MayStay staying s.held → (inputs : List Bool)
    → MayStay staying (begun p inputs s.held)
stays_given p s fits standing None of stays inputs = tt
stays_given p s fits standing (Some staying) of stays inputs = record {
  so = (holds_begun p staying.steady of.set inputs s.held (standing_holds p s fits standing staying.steady stays.so)).so;
  apart = begun_apart p staying.steady staying.apart of.apart s.held stays.apart inputs;
}

module _ (p : Drawing) (well : IsWellFormed p) (sound : IsSound (diagram_of p)) (law : AllowsGiven p) (assumed : Option Expression) (coil : ℕ) (listed : List ℕ)
    (inputs_are : list_all (is_input_variable p) listed ≡ true) (n : ℕ) where
  abbrev assuming : Assumed
  assuming = record { inputs = input_numbers p; expression = assumed }

  -- ---- the inputs that the scan gives have the bits of the number
  given_bits : (s : Standing) (scan : OneScan) → list_all (is_so (after_scan (diagram_of p) scan.moment scan.inputs s.held)) (row_target coil listed n) ≡ true
      → HasBits listed n (given (diagram_of p).inputs scan.inputs s.held.values)
  given_bits s scan on var b lt e = by_place (position (λ l. l == var) listed) refl e
    where
      after : Held
      after = after_scan (diagram_of p) scan.moment scan.inputs s.held

      by_place : (o : Option ℕ) → position (λ l. l == var) listed ≡ o → bit_above (length listed) 0 n o ≡ Some b
          → get_or (given (diagram_of p).inputs scan.inputs s.held.values) var false ≡ b
      by_place None at e = cc
      by_place (Some i) at e =
          let found = position-Some (λ l. l == var) listed i 0 at in
          let same : get_or listed i 0 ≡ var = same_number (get_or listed i 0) var found.1 in
          let input : get_or (diagram_of p).inputs var false ≡ true =
          ap (λ (flags : List Bool). get_or flags var false) (inputs_of p)
          ∙ subst (λ (v : ℕ). is_input_variable p v ≡ true) same (each (is_input_variable p) listed 0 i found.0 inputs_are) in
          let bit : Some (bit_of (length listed) i n) ≡ Some b = rw (none_open (length listed - (i + 1))) at e in
          sym (input_after p well scan.moment scan.inputs s.held var input)
          ∙ subst (λ (v : ℕ). get_or after.values v false ≡ bit_of (length listed) i n) same (bit_is coil listed n after on i found.0)
          ∙ some_same _ _ bit

  -- with these inputs what is assumed is true
  allowed_given : (s : Standing) → Fits p s → (scan : OneScan) → IsGivenAllowed assuming scan
      → is_allowed assumed (stored_inputs (input_numbers p) (given (diagram_of p).inputs scan.inputs s.held.values)) ≡ true
  allowed_given s fits scan allowed =
      (law assuming refl s fits (scan ∷ []) (All-cons (IsGivenAllowed assuming) scan [] allowed (All-nil (IsGivenAllowed assuming)))).0

  one_scan : (s : Standing) → Fits p s → IsStanding s → (states : States) → AreStatesOf p states → states.before ≡ Any → MayStay states.staying s.held
      → (scan : OneScan) → s.moment ≤ scan.moment → scan.moment < 2 ^ 64 → IsGivenAllowed assuming scan
      → list_all (is_so (after_scan (diagram_of p) scan.moment scan.inputs s.held)) (row_target coil listed n) ≡ true → SomeLeavesBy assumed p coil listed states true n
  one_scan s fits standing states of any stays scan later small allowed on =
      let d = diagram_of p in
      let t : Standing = record s { held = begun p scan.inputs s.held } in
      let fits_begun : Fits p t = record { values = size-given d.inputs scan.inputs s.held.values ∙ fits.values; memories = fits.memories; kinds = fits.kinds } in
      some_leaves assumed p coil listed states n (record {
        state = t;
        moment = scan.moment;
        fits = fits_begun;
        standing = record { sound = standing.sound; small = standing.small };
        counts = record {
          before = subst (λ (b : Before). IsBefore b coil t) (sym any) tt;
          stays = stays_given p s fits standing states.staying of stays scan.inputs;
        };
        later = later;
        small = small;
        leaves = cause_is p t scan.moment coil listed n (given_bits s scan on)
            ∙ ap (λ (h : Held). get_or h.values coil false) (scan_begun p scan.moment scan.inputs s.held)
            ∙ coil_on coil listed n (after_scan d scan.moment scan.inputs s.held) on;
      }) (counted_there assumed p t scan.moment coil listed n fits_begun (given_bits s scan on) (allowed_given s fits scan allowed))

  comes : (states : States) → AreStatesOf p states → states.before ≡ Any → (scans : List OneScan) (s : Standing) → Fits p s → IsStanding s
      → ((more : List OneScan) → IsRun s.moment more → AreAsAssumed assumed p more → MayStay states.staying (reached p more s).held)
      → IsRun s.moment scans → AreAsAssumed assumed p scans → 0 < length scans
      → list_all (is_so (after_each (diagram_of p) scans s.held)) (row_target coil listed n) ≡ true → SomeLeavesBy assumed p coil listed states true n
  unfolding after_each
  comes states of any [] s fits standing stays run are some on = absurd (omega (arith, some))
  comes states of any (scan ∷ []) s fits standing stays run are some on =
      one_scan s fits standing states of any (stays [] tt (All-nil (IsGivenAllowed assuming))) scan run.0 run.1 (are 0 scan (omega arith)) on
  comes states of any (scan ∷ after ∷ more) s fits standing stays run are some on =
      comes states of any (after ∷ more) (next p scan s) (next_fits p sound scan s fits) (next_stands p sound scan s standing run.0 run.1)
      (λ rest is also. stays (scan ∷ rest) (run.0, run.1, is) (All-cons (IsGivenAllowed assuming) scan rest (are 0 scan (omega arith)) also))
      run.2 (λ k d l. are (suc k) d (omega (arith, l))) (omega arith) on

pub runs_lead : (p : Drawing) → IsWellFormed p → IsSound (diagram_of p) → AllowsGiven p → RunsLead p
runs_lead p well sound law assumed s fits standing states of counts coil listed inputs n none scans asked some =
    must_be_off _ (λ on. none (comes p well sound law assumed coil listed inputs n states of counts.any scans s fits standing counts.stays asked.timed
    (λ k d l. ((asked.given k d l).all, (asked.given k d l).allowed)) some on))
