-- Scans that give each input a value with which what is assumed is true are allowed.
use Rattle.std.proofs.Common.{◌≡◌, ◌∙◌, ap, ap₂, refl, sym, arith, ℕ, zero, suc, ◌+◌, Bool, true, false, List, [], ◌∷◌, length, map, slice_index_or}
use Rattle.std.specs.Prelude.{All, filter}
use Rattle.std.specs.List.{range_with_len}
use Rattle.std.proofs.lemmas.List.{length-map}
use Rattle.diagram_declarations.specs.Decls.{is_input}
use Rattle.diagram_program.specs.Program.{Drawing}
use Rattle.scan_cycle.specs.Programs.{IsSound, diagram_of}
use Rattle.scan_cycle.specs.Rung.{Held}
use Rattle.scan_cycle.specs.RungByRung.{scanned}
use Rattle.scan_cycle.specs.Runs.{OneScan}
use Rattle.scan_cycle.specs.Scan.{after_scan, given}
use Rattle.scan_cycle.proofs.ByList.{scanned_is}
use Rattle.scan_cycle.proofs.Sizes.{scan_lengths}
use Rattle.assume_truth.specs.Truth.{is_allowed}
use Rattle.invariant_cases.specs.Assuming.{Assumed, stored_inputs}
use Rattle.invariant_sets.specs.Invariants.{AllowsGiven, AreAllowed, IsGivenAllowed, input_numbers}

off_on : false ≡ true → ⊥
off_on e = cc

step_on : (a j : ℕ) → a + suc j ≡ a + 1 + j
step_on a j = omega arith

same_length : (n m : ℕ) → suc n ≡ suc m → n ≡ m
same_length n m e = omega (arith, e)

-- Each input that is given has its value: those that are inputs, from a number on, have the values in order.
given_inputs : (f : ℕ → Bool) (test : ℕ → Bool) (a : ℕ) (flags xs values : List Bool) → ((i : ℕ) → slice_index_or flags i false ≡ test (a + i))
    → ((i : ℕ) → f (a + i) ≡ slice_index_or (given flags xs values) i false) → length values ≡ length flags
    → length xs ≡ length (filter test (range_with_len a (length flags))) → map f (filter test (range_with_len a (length flags))) ≡ xs
given_inputs f test a [] [] values is at many few = refl
given_inputs f test a [] (x ∷ xs) values is at many few = absurd (omega (arith, few))
given_inputs f test a (b ∷ flags) xs [] is at many few = absurd (omega (arith, many))
given_inputs f test a (true ∷ flags) [] (v ∷ values) is at many few =
    let z : a + 0 ≡ a = omega arith in
    let t : test a ≡ true = sym (is 0 ∙ ap test z) in
    let fewer : 0 ≡ suc (length (filter test (range_with_len (a + 1) (length flags)))) = rw t at few in
    absurd (omega (arith, fewer))
given_inputs f test a (true ∷ flags) (x ∷ xs) (v ∷ values) is at many few =
    let z : a + 0 ≡ a = omega arith in
    let t : test a ≡ true = sym (is 0 ∙ ap test z) in
    let fewer : suc (length xs) ≡ suc (length (filter test (range_with_len (a + 1) (length flags)))) = rw t at few in
    rw t (ap₂ (λ (y : Bool) (ys : List Bool). y ∷ ys) (sym (ap f z) ∙ at 0)
    (given_inputs f test (a + 1) flags xs values (λ j. is (suc j) ∙ ap test (step_on a j)) (λ j. ap f (sym (step_on a j)) ∙ at (suc j)) (same_length _ _ many) (same_length _ _ fewer)))
given_inputs f test a (false ∷ flags) xs (v ∷ values) is at many few =
    let z : a + 0 ≡ a = omega arith in
    let t : test a ≡ false = sym (is 0 ∙ ap test z) in
    let fewer : length xs ≡ length (filter test (range_with_len (a + 1) (length flags))) = rw t at few in
    rw t (given_inputs f test (a + 1) flags xs values (λ j. is (suc j) ∙ ap test (step_on a j)) (λ j. ap f (sym (step_on a j)) ∙ at (suc j)) (same_length _ _ many) fewer)

zero_on : (i : ℕ) → i ≡ 0 + i
zero_on i = omega arith

stored_are : (flags xs values : List Bool) (numbers : List ℕ) → numbers ≡ filter (λ var. slice_index_or flags var false) (range_with_len 0 (length flags))
    → length values ≡ length flags → length xs ≡ length numbers → stored_inputs numbers (given flags xs values) ≡ xs
stored_are flags xs values numbers are many few =
    let test = λ (var : ℕ). slice_index_or flags var false in
    let f = λ (var : ℕ). slice_index_or (given flags xs values) var false in
    ap (λ (ns : List ℕ). map f ns) are
    ∙ given_inputs f test 0 flags xs values (λ i. ap test (zero_on i)) (λ i. ap f (sym (zero_on i))) many (few ∙ ap length are)

module _ (p : Drawing) (sound : IsSound (diagram_of p)) (a : Assumed) (are : a.inputs ≡ input_numbers p) where
  inputs_many : length p.decls.vars ≡ length (diagram_of p).inputs
  unfolding diagram_of
  inputs_many = sym (length-map p.decls.vars is_input)

  values_kept : (scan : OneScan) (h : Held) → length h.values ≡ length p.decls.vars → length (after_scan (diagram_of p) scan.moment scan.inputs h).values ≡ length p.decls.vars
  values_kept scan h many =
      let d = diagram_of p in
      let start : Held = record { values = given d.inputs scan.inputs h.values; kept = h.kept } in
      let by_rungs : after_scan d scan.moment scan.inputs h ≡ (scanned d scan.moment start d.rungs).held = sym (scanned_is d sound.forward scan.moment start) in
      (scan_lengths d scan.moment d.inputs scan.inputs h start (after_scan d scan.moment scan.inputs h) d.rungs refl by_rungs).values ∙ many

  all_given : (scans : List OneScan) (h : Held) → length h.values ≡ length p.decls.vars → All (IsGivenAllowed a) scans → AreAllowed p a scans h
  all_given [] h many all = tt
  all_given (scan ∷ more) h many all =
      let here = all 0 scan (omega arith) in (
        ap (λ (xs : List Bool). is_allowed a.expression xs) (stored_are (diagram_of p).inputs scan.inputs h.values a.inputs are (many ∙ inputs_many) here.0) ∙ here.1,
        all_given more (after_scan (diagram_of p) scan.moment scan.inputs h) (values_kept scan h many) (λ k d l. all (suc k) d (omega (arith, l))),
      )

pub allows_given : (p : Drawing) → IsSound (diagram_of p) → AllowsGiven p
allows_given p sound a are s fits scans all = all_given p sound a are scans s.held fits.values all
