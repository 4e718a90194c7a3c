-- What is assumed of both programs is true of the values of b just where it is true of theirs.
use Rattle.std.proofs.Common.{◌≡◌, ◌∙◌, ◌<◌, ap, arith, false, get_or, length, map, sym, true, ℕ, Bool, List, Option, None, Contains, slice_index_or, subst, refl, [], ◌∷◌}
use Rattle.std.specs.List.{All}
use Rattle.std.proofs.lemmas.Bool.{and_from, and_parts}
use Rattle.std.proofs.lemmas.List.{ext_get_or, get_or-map, length-map}
use Rattle.std.proofs.lemmas.List.Elements.{All-map, All-weaker}
use Rattle.std.proofs.lemmas.Option.{get_or_from_slice_get, slice_get-get_or, slice_get_within}
use Rattle.std.proofs.lemmas.Simd.{map-map}
use Rattle.st_expression.specs.declared.expression.Expression.{Expression}
use Rattle.diagram_program.specs.Program.{Drawing}
use Rattle.scan_cycle.specs.Programs.{diagram_of}
use Rattle.scan_cycle.specs.Rung.{Held}
use Rattle.scan_cycle.specs.Runs.{OneScan}
use Rattle.scan_cycle.specs.Scan.{after_scan}
use Rattle.scan_cycle.specs.Standing.{fresh}
use Rattle.assume_truth.specs.Truth.{is_allowed}
use Rattle.invariant_cases.specs.Assuming.{stored_inputs}
use Rattle.invariant_sets.specs.Invariants.{AreAllowed, IsGivenAllowed}
use Rattle.reach_runs.specs.Asking.{Gives}
use Rattle.diff_matching.specs.declared.matching.Pair.{Pair}
use Rattle.diff_matching.specs.Matching.{Matching}
use Rattle.diff_matching.specs.Runs.{new_scan, old_scan}
use Rattle.diff_runs.specs.Asking.{question}
use Rattle.diff_runs.specs.Assuming.{Assumptions, over_inputs}
use Rattle.diff_runs.specs.Laws.{AreAssumedAlways, AreJoined}
use Rattle.diff_runs.specs.Pulling.{ArePlaces, inputs_of, pulled, pulled_scan, pulled_values}
use Rattle.diff_runs.specs.declared.symbols.TwoSymbols.{TwoSymbols}

-- At the places of the inputs of p are their values, where each input of b has the value of that which it is with.
stored_values : (m : Matching) (p b : Drawing) (places : List ℕ) → ArePlaces m p b places → (f : ℕ → Bool) (values : List Bool)
    → ((x : Pair) → Contains m.inputs x → get_or values x.old false ≡ f x.new)
    → pulled_values places (map f (inputs_of b)) ≡ stored_inputs (inputs_of p) values
stored_values m p b places are f values takes =
    let there = λ (place : ℕ). slice_index_or (map f (inputs_of b)) place false in
    let here = λ (var : ℕ). slice_index_or values var false in
    ext_get_or false (pulled_values places (map f (inputs_of b))) (stored_inputs (inputs_of p) values)
    (length-map places there ∙ are.as_many ∙ sym (length-map (inputs_of p) here))
    (λ n within.
    let short : n < length places = omega (arith, within, length-map places there) in
    let place = get_or places n 0 in
    let is = are.each n place (slice_get-get_or places n 0 short) in
    get_or-map there places n 0 false short
    ∙ get_or-map f (inputs_of b) place 0 false (slice_get_within (inputs_of b) place is.pair.new is.new)
    ∙ ap f (get_or_from_slice_get (inputs_of b) place is.pair.new 0 is.new)
    ∙ sym (takes is.pair is.paired)
    ∙ sym (ap here (get_or_from_slice_get (inputs_of p) n is.pair.old 0 is.old))
    ∙ sym (get_or-map here (inputs_of p) n 0 false (slice_get_within (inputs_of p) n is.pair.old is.old)))

module _ (a : Assumptions) (of_old of_new : Matching) (p q b : Drawing) (old_places new_places : List ℕ) (joint : Option Expression)
    (are : AreJoined a of_old of_new p q b old_places new_places joint) where
  pub joint_true : (f : ℕ → Bool) (xs ys : List Bool) → ((x : Pair) → Contains of_old.inputs x → get_or xs x.old false ≡ f x.new)
      → ((y : Pair) → Contains of_new.inputs y → get_or ys y.old false ≡ f y.new)
      → is_allowed a.old (stored_inputs (inputs_of p) xs) ≡ true → is_allowed a.new (stored_inputs (inputs_of q) ys) ≡ true
      → is_allowed joint (map f (inputs_of b)) ≡ true
  joint_true f xs ys olds news old new =
      are.says_both (map f (inputs_of b))
      ∙ and_from (is_allowed a.old (pulled_values old_places (map f (inputs_of b)))) (is_allowed a.new (pulled_values new_places (map f (inputs_of b))))
      (ap (λ values. is_allowed a.old values) (stored_values of_old p b old_places are.places_of_old f xs olds) ∙ old)
      (ap (λ values. is_allowed a.new values) (stored_values of_new q b new_places are.places_of_new f ys news) ∙ new)

  module _ (there : TwoSymbols) (value : Bool) (scans : List OneScan) (given : All (λ scan. Gives (question b there value joint) scan.inputs) scans) where
    parts : (inputs : List Bool) → Gives (question b there value joint) inputs
        → (is_allowed a.old (pulled_values old_places inputs) ≡ true) × (is_allowed a.new (pulled_values new_places inputs) ≡ true)
    parts inputs gives =
        and_parts (is_allowed a.old (pulled_values old_places inputs)) (is_allowed a.new (pulled_values new_places inputs))
        (sym (are.says_both inputs) ∙ gives.allowed)

    pub old_allowed : All (IsGivenAllowed (over_inputs p a.old)) (map old_scan (map (pulled old_places new_places) scans))
    old_allowed =
        subst (λ (ss : List OneScan). All (IsGivenAllowed (over_inputs p a.old)) ss) (sym (map-map old_scan (pulled old_places new_places) scans))
        (All-map (IsGivenAllowed (over_inputs p a.old)) (pulled_scan old_places) scans
        (All-weaker (λ (scan : OneScan). Gives (question b there value joint) scan.inputs) (λ scan. IsGivenAllowed (over_inputs p a.old) (pulled_scan old_places scan))
        (λ scan gives. (length-map old_places (λ place. slice_index_or scan.inputs place false) ∙ are.places_of_old.as_many, (parts scan.inputs gives).0)) scans given))

    pub new_allowed : All (IsGivenAllowed (over_inputs q a.new)) (map new_scan (map (pulled old_places new_places) scans))
    new_allowed =
        subst (λ (ss : List OneScan). All (IsGivenAllowed (over_inputs q a.new)) ss) (sym (map-map new_scan (pulled old_places new_places) scans))
        (All-map (IsGivenAllowed (over_inputs q a.new)) (pulled_scan new_places) scans
        (All-weaker (λ (scan : OneScan). Gives (question b there value joint) scan.inputs) (λ scan. IsGivenAllowed (over_inputs q a.new) (pulled_scan new_places scan))
        (λ scan gives. (length-map new_places (λ place. slice_index_or scan.inputs place false) ∙ are.places_of_new.as_many, (parts scan.inputs gives).1)) scans given))

-- ---- nothing is assumed

any_allowed : (p : Drawing) (scans : List OneScan) (h : Held) → AreAllowed p (over_inputs p None) scans h
any_allowed p [] h = tt
any_allowed p (scan ∷ more) h = (refl, any_allowed p more (after_scan (diagram_of p) scan.moment scan.inputs h))

pub always : (p q : Drawing) → AreAssumedAlways p q
always p q scans = record { old = any_allowed p (map old_scan scans) (fresh p).held; new = any_allowed q (map new_scan scans) (fresh q).held }
