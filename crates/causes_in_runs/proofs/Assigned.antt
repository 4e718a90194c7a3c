-- In a state in which the listed inputs have a number's bits, the number's assignment is what the inputs are there.
use Rattle.std.proofs.Common.{◌≡◌, ◌⊎◌, ◌∙◌, ap, ap₂, refl, arith, ℕ, zero, suc, ◌+◌, ◌<◌, ◌≤◌, Bool, true, false, List, ◌∷◌, Option, Some, None, inl, inr, length, map, slice_index_or}
use Rattle.std.specs.Prelude.{filter}
use Rattle.std.specs.List.{range_with_len}
use Rattle.std.proofs.lemmas.List.{length-map}
use Rattle.st_expression.specs.declared.expression.Expression.{Expression}
use Rattle.diagram_declarations.specs.Decls.{is_input}
use Rattle.diagram_program.specs.Program.{Drawing}
use Rattle.scan_cycle.specs.Programs.{diagram_of}
use Rattle.scan_cycle.specs.Standing.{Fits, Standing}
use Rattle.causes_query.specs.Assignment.{assigned, assignment, input_variables}
use Rattle.causes_query.specs.Causes.{question}
use Rattle.causes_query.proofs.Asking.{inputs_of}
use Rattle.assume_truth.specs.Truth.{is_allowed}
use Rattle.assume_search.specs.Counted.{is_counted}
use Rattle.invariant_cases.specs.Assuming.{stored_inputs}
use Rattle.invariant_sets.specs.Invariants.{input_numbers}
use Rattle.causes_any_state.specs.Numbers.{HasBits}
use Rattle.causes_any_state.specs.Possible.{SomeLeaves, SomeLeavesBy}
use Rattle.causes_any_state.specs.declared.states.States.{States}
use Rattle.causes_any_state.proofs.Asking.{own_value}

either : (b : Bool) → (b ≡ true) ⊎ (b ≡ false)
either true = inl refl
either false = inr refl

-- two functions that agree below a bound give the members of a range there the same
same_map : (f g : ℕ → Bool) (test : ℕ → Bool) (bound a k : ℕ) → a + k ≤ bound → ((v : ℕ) → v < bound → f v ≡ g v)
    → map f (filter test (range_with_len a k)) ≡ map g (filter test (range_with_len a k))
same_map f g test bound a zero le h = refl
same_map f g test bound a (suc k) le h = elim (either (test a)) [
  | inl t ↦ rw t (ap₂ (λ (x : Bool) (xs : List Bool). x ∷ xs) (h a (omega (arith, le))) (same_map f g test bound (a + 1) k (omega (arith, le)) h))
  | inr t ↦ rw t (same_map f g test bound (a + 1) k (omega (arith, le)) h)
]

own_inputs : (flags values : List Bool) (listed : List ℕ) (n : ℕ) → length flags ≤ length values → HasBits listed n values
    → assignment flags listed n values ≡ stored_inputs (input_variables flags) values
own_inputs flags values listed n many bits =
    same_map (assigned listed n values) (λ var. slice_index_or values var false) (λ var. slice_index_or flags var false) (length flags) 0 (length flags)
    (omega arith) (λ var lt. own_value listed n values bits var (omega (arith, lt, many)))

as_many : (p : Drawing) (s : Standing) → Fits p s → length (diagram_of p).inputs ≤ length s.held.values
as_many p s fits =
    let flags : length (diagram_of p).inputs ≡ length p.decls.vars = ap (λ (xs : List Bool). length xs) (inputs_of p) ∙ length-map p.decls.vars is_input in
    omega (arith, flags, fits.values)

-- So the combination counts where what is assumed is true in the state.
pub counted_there : (assumed : Option Expression) (p : Drawing) (s : Standing) (moment coil : ℕ) (listed : List ℕ) (n : ℕ) → Fits p s → HasBits listed n s.held.values
    → is_allowed assumed (stored_inputs (input_numbers p) s.held.values) ≡ true → is_counted assumed (question p s moment coil listed) n ≡ true
counted_there assumed p s moment coil listed n fits bits allowed =
    ap (λ (values : List Bool). is_allowed assumed values) (own_inputs (diagram_of p).inputs s.held.values listed n (as_many p s fits) bits) ∙ allowed

-- A state counts by what is assumed as well.
pub some_leaves : (assumed : Option Expression) (p : Drawing) (coil : ℕ) (listed : List ℕ) (states : States) (n : ℕ) (found : SomeLeaves p coil listed states true n)
    → is_counted assumed (question p found.state found.moment coil listed) n ≡ true → SomeLeavesBy assumed p coil listed states true n
some_leaves None p coil listed states n found counted = found
some_leaves (Some e) p coil listed states n found counted = (found, counted)
