-- The numbers of the variables that are asked for.
use Rattle.std.proofs.Common.{◌≡◌, ◌∙◌, ◌+◌, ◌<◌, ◌≤◌, ◌++◌, ◌∷◌, [], ℕ, Bool, true, false, List, Some, sym, ap, append-nil, arith, length, map, slice_get, take, take_all}
use Rattle.std.specs.Prelude.{slice_index_or}
use Rattle.std.proofs.lemmas.List.{length-map, map-append}
use Rattle.diagram_declarations.specs.declared.decls.Var.{Var}
use Rattle.text_trace.specs.Room.{ArePicked, chosen}
use Rattle.text_trace.proofs.Lists.{chosen_next, chosen_values, there_or}

-- the numbers of those among the first variables
abbrev pub IsPickedTo : (Var → Bool) → List Var → ℕ → List ℕ → Type 0
IsPickedTo p vars i numbers =
    (values : List Bool) → length values ≡ length vars → map (λ n. slice_index_or values n false) numbers ≡ chosen (take i (map p vars)) values

-- one that is asked for
pub picked_more : (p : Var → Bool) (vars : List Var) (i : ℕ) (numbers : List ℕ) → i < length vars → slice_get (map p vars) i ≡ Some true
    → IsPickedTo p vars i numbers → IsPickedTo p vars (i + 1) (numbers ++ (i ∷ []))
picked_more p vars i numbers h mark before = λ values long.
    let at = λ (n : ℕ). slice_index_or values n false in
    let next = chosen_next (map p vars) values i true (at i) mark (there_or values i false (omega (arith, h, long))) in
    map-append at numbers (i ∷ []) ∙ ap (λ l. l ++ (at i ∷ [])) (before values long) ∙ sym next

-- one that isn't
pub picked_none : (p : Var → Bool) (vars : List Var) (i : ℕ) (numbers : List ℕ) → i < length vars → slice_get (map p vars) i ≡ Some false
    → IsPickedTo p vars i numbers → IsPickedTo p vars (i + 1) numbers
picked_none p vars i numbers h mark before = λ values long.
    let next = chosen_next (map p vars) values i false (slice_index_or values i false) mark (there_or values i false (omega (arith, h, long))) in
    before values long ∙ sym (append-nil (chosen (take i (map p vars)) values)) ∙ sym next

pub picked_all : (p : Var → Bool) (vars : List Var) (i : ℕ) (numbers : List ℕ) → length vars ≤ i → IsPickedTo p vars i numbers → ArePicked p vars numbers
picked_all p vars i numbers all before = λ values long.
    before values long ∙ ap (λ m. chosen m values) (take_all i (map p vars) (omega (arith, all, length-map vars p))) ∙ chosen_values p vars values
