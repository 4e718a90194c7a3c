-- What is assumed of the inputs, as a look tells it.
use Rattle.std.proofs.Common.{◌≡◌, ◌∙◌, ap, ap₂, sym, refl, subst, arith, ℕ, zero, suc, ◌+◌, ◌-◌, ◌<◌, ◌≤◌, ◌%◌, ◌^◌, ◌==◌, Bool, false, List, [], ◌∷◌, length, map, Option, Some, None, inl, inr, slice_index_or}
use Rattle.std.specs.Prelude.{filter, option_map, position, unwrap_or}
use Rattle.std.specs.List.{range_with_len}
use Rattle.std.proofs.lemmas.List.{length-map}
use Rattle.std.proofs.Math.Path.{fun_ext}
use Rattle.st_expression.specs.declared.expression.Expression.{Expression}
use Rattle.st_expression.specs.Value.{held}
use Rattle.diagram_declarations.specs.Decls.{is_input}
use Rattle.diagram_program.specs.Program.{Drawing}
use Rattle.scan_signals.specs.Relations.{allows_kept}
use Rattle.scan_signals.specs.Three.{AnyTri, three, three_allows}
use Rattle.scan_signals.specs.ThreeLaws.{three_allowed, three_lattice}
use Rattle.scan_signals.specs.Truth.{OnePlace, plain}
use Rattle.scan_signals.specs.declared.tri.Tri.{Tri}
use Rattle.scan_signals.specs.declared.tri.Tri.TheVariants.{Off, On, Unsure}
use Rattle.scan_cycle.specs.Programs.{diagram_of}
use Rattle.scan_cycle.specs.Standing.{Fits, Standing}
use Rattle.search_groups.proofs.Alike.{either}
use Rattle.causes_query.specs.Assignment.{assigned, assignment, bit_of, input_variables}
use Rattle.causes_query.specs.Causes.{question}
use Rattle.causes_query.proofs.Asking.{inputs_of}
use Rattle.invariant_cases.specs.Allowing.{Allows}
use Rattle.assume_truth.specs.Truth.{assumed_truth, is_allowed}
use Rattle.assume_truth.proofs.Kept.{allowed_is, assumed_kept}
use Rattle.assume_search.specs.Counted.{is_counted}
use Rattle.assume_search.proofs.Telling.{held_is}
use Rattle.causes_any_state.specs.Numbers.{AreExcluded, HasBits, bit_above, known_by, prefix_bit}
use Rattle.causes_any_state.specs.Possible.{IsExcluded}
use Rattle.causes_any_state.specs.Truth.{open_input, stored_inputs}
use Rattle.causes_any_state.proofs.Asking.{none_open, own_value}
use Rattle.causes_any_state.proofs.Covering.{above_is, by_case}

-- ---- in a state

pub truth_stored : (values : List Bool) (assumed : Option Expression) → assumed_truth plain (λ place. slice_index_or values place false) assumed ≡ is_allowed assumed values
truth_stored values assumed = ap (λ f. assumed_truth plain f assumed) (fun_ext λ place. held_is values place) ∙ allowed_is values assumed

-- two functions that agree below a bound give the members of a range there the same
same_map : (f g : ℕ → Bool) (test : ℕ → Bool) (bound a k : ℕ) → a + k ≤ bound → ((v : ℕ) → v < bound → f v ≡ g v)
    → map f (filter test (range_with_len a k)) ≡ map g (filter test (range_with_len a k))
same_map f g test bound a zero le h = refl
same_map f g test bound a (suc k) le h = elim (either (test a)) [
  | inl t ↦ rw t (ap₂ (λ (x : Bool) (xs : List Bool). x ∷ xs) (h a (omega (arith, le))) (same_map f g test bound (a + 1) k (omega (arith, le)) h))
  | inr t ↦ rw t (same_map f g test bound (a + 1) k (omega (arith, le)) h)
]

-- A state with a number's bits has the number's assignment.
own_inputs : (p : Drawing) (s : Standing) (listed : List ℕ) (n : ℕ) → Fits p s → HasBits listed n s.held.values
    → assignment (map is_input p.decls.vars) listed n s.held.values ≡ stored_inputs (input_variables (map is_input p.decls.vars)) s.held.values
own_inputs p s listed n fits bits =
    let flags = map is_input p.decls.vars in
    let many : length flags ≡ length p.decls.vars = length-map p.decls.vars is_input in
    same_map (assigned listed n s.held.values) (λ var. slice_index_or s.held.values var false) (λ var. slice_index_or flags var false) (length flags) 0 (length flags)
    (omega arith) (λ var lt. own_value listed n s.held.values bits var (omega (arith, lt, many, fits.values)))

pub counted_stored : (assumed : Option Expression) (p : Drawing) (s : Standing) (moment coil : ℕ) (listed : List ℕ) (n : ℕ) (inputs : List ℕ)
    → inputs ≡ input_variables (map is_input p.decls.vars) → Fits p s → HasBits listed n s.held.values
    → is_counted assumed (question p s moment coil listed) n ≡ is_allowed assumed (stored_inputs inputs s.held.values)
counted_stored assumed p s moment coil listed n inputs inputs_are fits bits =
    ap (λ (values : List Bool). is_allowed assumed values)
    (ap (λ (flags : List Bool). assignment flags listed n s.held.values) (inputs_of p) ∙ own_inputs p s listed n fits bits
    ∙ ap (λ (vars : List ℕ). stored_inputs vars s.held.values) (sym inputs_are))

-- ---- with a number given, but for its last bits

assigned_bit : (k n : ℕ) (place : Option ℕ) (stored b : Bool) → bit_above k 0 n place ≡ Some b → unwrap_or (option_map (λ i. bit_of k i n) place) stored ≡ b
assigned_bit k n None stored b h = cc
assigned_bit k n (Some i) stored b h = let e : Some (bit_of k i n) ≡ Some b = rw (none_open (k - (i + 1))) at h in cc

open_allows : (listed : List ℕ) (open_bits base n : ℕ) (values : List Bool) → base % 2 ^ open_bits ≡ 0 → base ≤ n → n < base + 2 ^ open_bits → (var : ℕ)
    → Allows (known_by (prefix_bit listed open_bits base var) Unsure) (assigned listed n values var)
open_allows listed open_bits base n values whole low high var =
    let place = position (λ l. l == var) listed in
    by_case (prefix_bit listed open_bits base var) Unsure (assigned listed n values var) (tt, λ _. tt)
    (λ b e. assigned_bit (length listed) n place (slice_index_or values var false) b (above_is (length listed) open_bits base n place b whole low high e))

allowed_at : (f : ℕ → Tri) (g : ℕ → Bool) → ((v : ℕ) → Allows (f v) (g v)) → (vars : List ℕ) (i : ℕ)
    → Allows (slice_index_or (map f vars) i Off) (slice_index_or (map g vars) i false)
allowed_at f g h [] i = (tt, λ _. refl)
allowed_at f g h (v ∷ vars) zero = h v
allowed_at f g h (v ∷ vars) (suc i) = allowed_at f g h vars i

known_off : (x : Tri) (b : Bool) → Allows x b → x ≡ Off → b ≡ false
known_off x b allows e = subst (λ (y : Tri). three_allows y 0 b) e (allows.1 refl)

excluded : (a : Expression) (p : Drawing) (listed : List ℕ) (open_bits base n : ℕ) (inputs : List ℕ) → base % 2 ^ open_bits ≡ 0 → base ≤ n → n < base + 2 ^ open_bits
    → inputs ≡ input_variables (map is_input p.decls.vars) → assumed_truth three (open_input inputs listed open_bits base) (Some a) ≡ Off → IsExcluded a p listed n
excluded a p listed open_bits base n inputs whole low high inputs_are off values =
    let given = map (assigned listed n values) inputs in
    let look = open_input inputs listed open_bits base in
    let same : given ≡ assignment (diagram_of p).inputs listed n values =
    ap (λ (vars : List ℕ). map (assigned listed n values) vars) (inputs_are ∙ ap (λ (flags : List Bool). input_variables flags) (sym (inputs_of p))) in
    let at : (i : ℕ) → Allows (look i) (held given i) = λ i. subst (λ (b : Bool). Allows (look i) b) (held_is given i)
    (allowed_at (λ var. known_by (prefix_bit listed open_bits base var) Unsure) (assigned listed n values)
    (open_allows listed open_bits base n values whole low high) inputs i) in
    let allows : Allows (assumed_truth three look (Some a)) (assumed_truth plain (held given) (Some a)) =
    assumed_kept three plain Allows (allows_kept AnyTri three OnePlace three_allows three_lattice three_allowed 0) look (held given) at (Some a) in
    ap (λ (xs : List Bool). is_allowed (Some a) xs) (sym same) ∙ sym (allowed_is given (Some a))
    ∙ known_off (assumed_truth three look (Some a)) (assumed_truth plain (held given) (Some a)) allows off

on_is_off : On ≡ Off → ⊥
on_is_off e = cc

pub are_excluded : (assumed : Option Expression) (p : Drawing) (listed : List ℕ) (open_bits base : ℕ) (inputs : List ℕ) → base % 2 ^ open_bits ≡ 0
    → inputs ≡ input_variables (map is_input p.decls.vars) → assumed_truth three (open_input inputs listed open_bits base) assumed ≡ Off
    → AreExcluded assumed p listed base (base + 2 ^ open_bits)
are_excluded None p listed open_bits base inputs whole inputs_are off n low high = on_is_off off
are_excluded (Some a) p listed open_bits base inputs whole inputs_are off n low high =
    excluded a p listed open_bits base n inputs whole low high inputs_are off
