-- One place more, for the next input.
use Rattle.std.proofs.Common.{◌≡◌, ◌∙◌, ap, slice_get, subst, suc, sym, zero, ℕ, List, [], ◌∷◌, ◌++◌, Some, Contains, length, map}
use Rattle.std.proofs.lemmas.Option.{same_Some}
use Rattle.diagram_declarations.specs.Decls.{is_input}
use Rattle.diagram_declarations.specs.declared.decls.Var.{Var}
use Rattle.diagram_program.specs.Program.{Drawing}
use Rattle.scan_cycle.specs.Programs.{diagram_of}
use Rattle.causes_query.specs.Assignment.{input_variables}
use Rattle.diff_matching.specs.declared.matching.Pair.{Pair}
use Rattle.diff_matching.specs.Matching.{Matching}
use Rattle.diff_runs.specs.Pulling.{IsPlace, inputs_of}

pub are_inputs_of : (p : Drawing) (vars : List Var) (xs : List ℕ) → xs ≡ input_variables (map is_input vars) → vars ≡ p.decls.vars → xs ≡ inputs_of p
unfolding diagram_of
are_inputs_of p vars xs is same = is ∙ ap (λ vs. input_variables (map is_input vs)) same

pub placed : (m : Matching) (p b : Drawing) (of_part of_both : List ℕ) → of_part ≡ inputs_of p → of_both ≡ inputs_of b
    → (number input place : ℕ) → slice_get of_part number ≡ Some input
    → (x : Pair) × Contains m.inputs x × (x.old ≡ input) × (slice_get of_both place ≡ Some x.new) → IsPlace m p b number place
placed m p b of_part of_both part_is both_is number input place at found = record {
  pair = found.0;
  paired = found.1;
  old = ap (λ xs. slice_get xs number) (sym part_is) ∙ at ∙ ap (λ i. Some i) (sym found.2);
  new = ap (λ xs. slice_get xs place) (sym both_is) ∙ found.3;
}

-- What is so of each element, with its number, is so with one more at the end.
pub each_of_more : (P : ℕ → ℕ → Type 0) (xs : List ℕ) (x : ℕ) → ((n v : ℕ) → slice_get xs n ≡ Some v → P n v) → P (length xs) x
    → (n v : ℕ) → slice_get (xs ++ x ∷ []) n ≡ Some v → P n v
each_of_more P [] x each last zero v is = subst (P 0) (same_Some x v is) last
each_of_more P [] x each last (suc n) v is = cc
each_of_more P (y ∷ xs) x each last zero v is = each 0 v is
each_of_more P (y ∷ xs) x each last (suc n) v is = each_of_more (λ i. P (suc i)) xs x (λ i. each (suc i)) last n v is
