-- Which value a scan gives an input.
use Rattle.std.proofs.Common.{◌≡◌, ◌∙◌, ap, arith, false, get_or, length, refl, slice_get, subst, suc, sym, true, zero, ℕ, ◌+◌, ◌<◌, ◌≤◌, Bool, List, [], ◌∷◌, Some, map, inl, inr}
use Rattle.std.specs.Prelude.{Contains, filter}
use Rattle.std.proofs.lemmas.Bool.{cases_Bool, cases_lt}
use Rattle.std.specs.List.{range_with_len}
use Rattle.std.proofs.lemmas.List.{length-map}
use Rattle.std.proofs.lemmas.Option.{get_or_from_slice_get, same_Some, slice_get_within}
use Rattle.diagram_declarations.specs.Decls.{is_input}
use Rattle.diagram_program.specs.Program.{Drawing}
use Rattle.scan_cycle.specs.Programs.{IsSound, diagram_of}
use Rattle.scan_cycle.specs.Rung.{Held}
use Rattle.scan_cycle.specs.Scan.{given}
use Rattle.scan_cycle.specs.Standing.{Standing, fresh}
use Rattle.scan_cycle.proofs.ByList.{scanned_is}
use Rattle.scan_cycle.proofs.Sizes.{scan_lengths}
use Rattle.diff_matching.specs.Runs.{next, with_inputs}
use Rattle.diff_runs.specs.Pulling.{inputs_of}
use Rattle.reach_runs.proofs.GivenLaws.{past_is_off}
use Rattle.diff_runs.proofs.Pairs.{contained}
use Rattle.diff_runs.proofs.Among.{from_first, left_out, stands, taken}

-- ---- by the places of the numbers

-- A value is given to the first input, or to a later one.
first_given : (n : ℕ) (rest : List ℕ) (x : Bool) (xs vs : List Bool)
    → ((k a : ℕ) → slice_get rest k ≡ Some (n + 1 + a) → k < length xs → get_or vs a false ≡ get_or xs k false)
    → ((k v : ℕ) → slice_get rest k ≡ Some v → n + 1 ≤ v)
    → (k a : ℕ) → slice_get (n ∷ rest) k ≡ Some (n + a) → k < length (x ∷ xs) → get_or (x ∷ vs) a false ≡ get_or (x ∷ xs) k false
first_given n rest x xs vs later low zero zero is less = refl
first_given n rest x xs vs later low zero (suc a) is less = let same : n ≡ n + suc a = same_Some n (n + suc a) is in absurd (omega (arith, same))
first_given n rest x xs vs later low (suc k) zero is less = absurd (omega (arith, low k (n + 0) is))
first_given n rest x xs vs later low (suc k) (suc a) is less =
    let same : n + suc a ≡ n + 1 + a = omega arith in
    later k a (is ∙ ap (λ (i : ℕ). Some i) same) (omega (arith, less))

-- It is given to a later one where the first variable is no input.
later_given : (n : ℕ) (rest : List ℕ) (v : Bool) (xs vs : List Bool)
    → ((k a : ℕ) → slice_get rest k ≡ Some (n + 1 + a) → k < length xs → get_or vs a false ≡ get_or xs k false)
    → ((k v : ℕ) → slice_get rest k ≡ Some v → n + 1 ≤ v)
    → (k a : ℕ) → slice_get rest k ≡ Some (n + a) → k < length xs → get_or (v ∷ vs) a false ≡ get_or xs k false
later_given n rest v xs vs later low k zero is less = absurd (omega (arith, low k (n + 0) is))
later_given n rest v xs vs later low k (suc a) is less =
    let same : n + suc a ≡ n + 1 + a = omega arith in
    later k a (is ∙ ap (λ (i : ℕ). Some i) same) less

module _ (p : ℕ → Bool) where
  flag_first : (n : ℕ) (f : Bool) (flags : List Bool) → ((i : ℕ) → i < length (f ∷ flags) → p (n + i) ≡ get_or (f ∷ flags) i false) → p n ≡ f
  flag_first n f flags flag = let same : n ≡ n + 0 = omega arith in ap p same ∙ flag 0 (omega arith)

  flags_from : (n : ℕ) (f : Bool) (flags : List Bool) → ((i : ℕ) → i < length (f ∷ flags) → p (n + i) ≡ get_or (f ∷ flags) i false)
      → (i : ℕ) → i < length flags → p (n + 1 + i) ≡ get_or flags i false
  flags_from n f flags flag i less =
      let same : n + 1 + i ≡ n + suc i = omega arith in
      ap p same ∙ flag (suc i) (omega (arith, less))

  given_from : (flags xs vs : List Bool) (n : ℕ) → ((i : ℕ) → i < length flags → p (n + i) ≡ get_or flags i false) → length vs ≡ length flags
      → (k a : ℕ) → slice_get (filter p (range_with_len n (length flags))) k ≡ Some (n + a) → k < length xs
      → get_or (given flags xs vs) a false ≡ get_or xs k false
  given_from [] xs vs n flag sizes k a is less = cc
  given_from (f ∷ flags) xs [] n flag sizes k a is less = absurd (omega (arith, sizes))
  given_from (true ∷ flags) [] (v ∷ vs) n flag sizes k a is less = absurd (omega (arith, less))
  given_from (true ∷ flags) (x ∷ xs) (v ∷ vs) n flag sizes k a is less =
      first_given n (filter p (range_with_len (n + 1) (length flags))) x xs (given flags xs vs)
      (given_from flags xs vs (n + 1) (flags_from n true flags flag) (omega (arith, sizes))) (from_first p (n + 1) (length flags)) k a
      (subst (λ (vars : List ℕ). slice_get vars k ≡ Some (n + a)) (taken p n (length flags) (flag_first n true flags flag)) is) less
  given_from (false ∷ flags) xs (v ∷ vs) n flag sizes k a is less =
      later_given n (filter p (range_with_len (n + 1) (length flags))) v xs (given flags xs vs)
      (given_from flags xs vs (n + 1) (flags_from n false flags flag) (omega (arith, sizes))) (from_first p (n + 1) (length flags)) k a
      (subst (λ (vars : List ℕ). slice_get vars k ≡ Some (n + a)) (left_out p n (length flags) (flag_first n false flags flag)) is) less

-- ---- of programs

-- an input is at a place among the inputs
pub input_at : (p : Drawing) (a : ℕ) → slice_get (map is_input p.decls.vars) a ≡ Some true → (k : ℕ) × (slice_get (inputs_of p) k ≡ Some a)
unfolding diagram_of
input_at p a is =
    let flags = map is_input p.decls.vars in
    stands (λ v. get_or flags v false) 0 (length flags) a (get_or_from_slice_get flags a true false is) (omega arith) (omega (arith, slice_get_within flags a true is))

-- What is not among the numbers of the inputs is no input.
pub no_input : (p : Drawing) (a : ℕ) → (Contains (inputs_of p) a → ⊥) → get_or (diagram_of p).inputs a false ≡ false
no_input p a other = elim (cases_Bool (get_or (diagram_of p).inputs a false)) [
  | inl on ↦ elim (cases_lt a (length (diagram_of p).inputs)) [
    | inl within ↦
        let at = stands (λ v. get_or (diagram_of p).inputs v false) 0 (length (diagram_of p).inputs) a on (omega arith) (omega (arith, within)) in
        absurd (other (contained (inputs_of p) at.0 a at.1))
    | inr past ↦ past_is_off (diagram_of p).inputs a past
  ]
  | inr off ↦ off
]

-- The input at a place takes the value that is given at the place.
pub given_input : (p : Drawing) (inputs : List Bool) (s : Standing) → length s.held.values ≡ length (diagram_of p).inputs
    → (k a : ℕ) → slice_get (inputs_of p) k ≡ Some a → k < length inputs → get_or (with_inputs p inputs s).held.values a false ≡ get_or inputs k false
given_input p inputs s sizes k a is less =
    let flags = (diagram_of p).inputs in
    given_from (λ v. get_or flags v false) flags inputs s.held.values 0 (λ i short. from_none (λ v. get_or flags v false) i) sizes k a
    (is ∙ sym (from_none (λ v. Some v) a)) less
  where
    from_none : {A : Type 0} (f : ℕ → A) (i : ℕ) → f (0 + i) ≡ f i
    from_none f i = let same : 0 + i ≡ i = omega arith in ap f same

-- A state has as many values as the program has variables: the fresh one, and the one after each scan.
pub fresh_sizes : (p : Drawing) → length (fresh p).held.values ≡ length (diagram_of p).inputs
unfolding diagram_of
fresh_sizes p = length-map p.decls.vars (λ v. v.initial) ∙ sym (length-map p.decls.vars is_input)

pub next_sizes : (p : Drawing) → IsSound (diagram_of p) → (moment : ℕ) (inputs : List Bool) (s : Standing) → length s.held.values ≡ length (diagram_of p).inputs
    → length (next p moment inputs s).held.values ≡ length (diagram_of p).inputs
next_sizes p sound moment inputs s sizes =
    let d = diagram_of p in
    let start : Held = record { values = given d.inputs inputs s.held.values; kept = s.held.kept } in
    (scan_lengths d moment d.inputs inputs s.held start (next p moment inputs s).held d.rungs refl (sym (scanned_is d sound.forward moment start))).values ∙ sizes
