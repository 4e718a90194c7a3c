-- The one variable of each INT that is ON, from a state of the drawing to one of the statements and back.
use Rattle.std.proofs.Common.{◌≡◌, ◌∙◌, ℕ, ◌<◌, ◌≤◌, Bool, true, false, List, [], ◌∷◌, Option, Some, None, zero, suc, length, map, take, slice_get, get_or, refl, sym, ap, subst, arith, length-take, true≢false}
use Rattle.std.proofs.lemmas.List.{get_or-take, length-map}
use Rattle.std.proofs.lemmas.Option.{slice_get-get_or}
use Rattle.diagram_declarations.specs.declared.decls.Var.{Var}
use Rattle.diagram_declarations.specs.Decls.{is_input}
use Rattle.diagram_program.specs.Program.{Drawing}
use Rattle.scan_cycle.specs.Rung.{Held}
use Rattle.scan_cycle.specs.Scan.{after_scan, given}
use Rattle.scan_cycle.specs.Programs.{diagram_of}
use Rattle.st_integers.specs.declared.value.IntegerValue.{IntegerValue}
use Rattle.st_integers.specs.Values.{HaveOne, KeepOne, is_of_integer, stands_for}
use Rattle.st_program.specs.declared.symbols.StVariable.{StVariable}
use Rattle.st_program.specs.Symbols.{integer_value, integer_values}
use Rattle.st_statements.specs.declared.statement.StatementList.{StatementList}
use Rattle.st_statements.specs.Run.{run}
use Rattle.draw_check.specs.Meaning.{AreSame, IsDrawingOf, with_inputs}
use Rattle.draw_program.specs.Drawn.{KeepsIntegers}
use Rattle.draw_program.specs.Integers.{AreNoInputs, IsNoInput}

-- Where a variable stands for a value, both lists have the same.
abbrev AreAlike : List (Option IntegerValue) → (first second : List Bool) → Type 0
AreAlike values first second = (integer k : ℕ) → stands_for values integer k ≡ true → slice_get second k ≡ slice_get first k

passed : (values : List (Option IntegerValue)) (first second : List Bool) → AreAlike values first second → HaveOne values first → HaveOne values second
passed values first second alike one = λ integer k t.
    let was = one integer k t in
    record { variable = was.variable; is_one = was.is_one; each = λ j s. alike integer j s ∙ was.each j s }

is_within : (values : List (Option IntegerValue)) (integer k : ℕ) → stands_for values integer k ≡ true → k < length values
is_within [] integer k t = absurd (true≢false (sym t))
is_within (x ∷ xs) integer zero t = omega arith
is_within (x ∷ xs) integer (suc k) t = let more = is_within xs integer k t in omega (arith, more)

-- lists that have the same below a number
below : (values : List (Option IntegerValue)) (first second : List Bool) (n : ℕ) → length values ≤ n → n ≤ length first → n ≤ length second
    → ((i : ℕ) → i < n → get_or second i false ≡ get_or first i false) → AreAlike values first second
below values first second n few one two same = λ integer k t.
    let lt : k < n = omega (arith, is_within values integer k t, few) in
    slice_get-get_or second k false (omega (arith, lt, two))
    ∙ ap Some (same k lt)
    ∙ sym (slice_get-get_or first k false (omega (arith, lt, one)))

-- A variable that is no input keeps its value as a scan begins.
not_given : (flags inputs on : List Bool) (k : ℕ) → get_or flags k false ≡ false → slice_get (given flags inputs on) k ≡ slice_get on k
not_given [] inputs on k free = refl
not_given (true ∷ flags) [] [] k free = refl
not_given (true ∷ flags) (x ∷ xs) [] k free = refl
not_given (false ∷ flags) [] [] k free = refl
not_given (false ∷ flags) (x ∷ xs) [] k free = refl
not_given (true ∷ flags) inputs (v ∷ vs) zero free = absurd (true≢false free)
not_given (true ∷ flags) [] (v ∷ vs) (suc k) free = not_given flags [] vs k free
not_given (true ∷ flags) (x ∷ xs) (v ∷ vs) (suc k) free = not_given flags xs vs k free
not_given (false ∷ flags) [] (v ∷ vs) zero free = refl
not_given (false ∷ flags) (x ∷ xs) (v ∷ vs) zero free = refl
not_given (false ∷ flags) [] (v ∷ vs) (suc k) free = not_given flags [] vs k free
not_given (false ∷ flags) (x ∷ xs) (v ∷ vs) (suc k) free = not_given flags (x ∷ xs) vs k free

no_input : (integer : ℕ) (x : Option IntegerValue) (v : Var) → IsNoInput x v → is_of_integer integer x ≡ true → is_input v ≡ false
no_input integer (Some of) v free t = free
no_input integer None v _ t = absurd (true≢false (sym t))

are_no_inputs : (values : List (Option IntegerValue)) (vs : List Var) → AreNoInputs values vs → (integer k : ℕ) → stands_for values integer k ≡ true
    → get_or (map is_input vs) k false ≡ false
are_no_inputs [] vs free integer k t = absurd (true≢false (sym t))
are_no_inputs (x ∷ xs) [] free integer k t = absurd free
are_no_inputs (x ∷ xs) (v ∷ vs) free integer zero t = no_input integer x v free.0 t
are_no_inputs (x ∷ xs) (v ∷ vs) free integer (suc k) t = are_no_inputs xs vs free.1 integer k t

enough : (values : List (Option IntegerValue)) (vs : List Var) → AreNoInputs values vs → length values ≤ length vs
enough [] vs free = omega arith
enough (x ∷ xs) [] free = absurd free
enough (x ∷ xs) (v ∷ vs) free = let more = enough xs vs free.1 in omega (arith, more)

-- the state of so many variables
abbrev first_of : ℕ → Held → Held
first_of n g = record { values = take n g.values; kept = g.kept }

length_first : (n : ℕ) (xs : List Bool) → n ≤ length xs → length (take n xs) ≡ n
length_first n xs le = omega (arith, length-take n xs)

same_first : (d : Drawing) (n : ℕ) (g : Held) → n ≤ length d.decls.vars → length g.values ≡ length d.decls.vars → AreSame d n g (first_of n g)
same_first d n g le fits = record {
  fits = fits;
  long = length_first n g.values (omega (arith, le, fits));
  enough = le;
  values = λ i lt. sym (get_or-take n g.values i false lt);
  kept = refl;
}

-- as a scan begins
begun : (d : Drawing) (values : List (Option IntegerValue)) (inputs : List Bool) (h : Held) → AreNoInputs values d.decls.vars → HaveOne values h.values
    → HaveOne values (with_inputs d inputs h).values
unfolding diagram_of
begun d values inputs h free one =
    passed values h.values (given (map is_input d.decls.vars) inputs h.values)
    (λ integer k t. not_given (map is_input d.decls.vars) inputs h.values k (are_no_inputs values d.decls.vars free integer k t))
    one

ended : (d : Drawing) (values : List (Option IntegerValue)) (n : ℕ) (g h : Held) → length values ≤ n → AreSame d n g h → HaveOne values h.values → HaveOne values g.values
ended d values n g h few same one =
    passed values h.values g.values (below values h.values g.values n few (omega (arith, same.long)) (omega (arith, same.enough, same.fits)) same.values) one

kept : (d : Drawing) (values : List (Option IntegerValue)) (n : ℕ) (list : StatementList) → length values ≡ n → AreNoInputs values d.decls.vars → IsDrawingOf n list d
    → KeepOne values list → HaveOne values (map (λ v. v.initial) d.decls.vars) → KeepsIntegers values d
kept d values n list many free draws keeps begins = record {
  begins = begins;
  keeps = λ now inputs g fits one.
      let le : n ≤ length d.decls.vars = omega (arith, many, enough values d.decls.vars free) in
      let few : length values ≤ n = omega (arith, many) in
      let h : Held = first_of n g in
      let same = same_first d n g le fits in
      let first : HaveOne values h.values =
      passed values g.values h.values
      (below values g.values h.values n few (omega (arith, le, fits)) (omega (arith, same.long)) (λ i lt. sym (same.values i lt)))
      one in
      let last = keeps d.decls.instances now (with_inputs d inputs h) (begun d values inputs h free first) in
      ended d values n (after_scan (diagram_of d) now inputs g) (run d.decls.instances now list (with_inputs d inputs h)).held few (draws now inputs g h same) last;
}

as_many : (xs : List StVariable) → length (integer_values xs) ≡ length xs
as_many xs = length-map xs (λ (v : StVariable). integer_value v.sort)

pub kept_of : (d : Drawing) (xs : List StVariable) (list : StatementList) (values : List (Option IntegerValue)) (vs : List Var) (starts : List Bool) → values ≡ integer_values xs
    → vs ≡ d.decls.vars → starts ≡ map (λ v. v.initial) vs → IsDrawingOf (length xs) list d → AreNoInputs values vs → HaveOne values starts → KeepOne values list
    → KeepsIntegers (integer_values xs) d
kept_of d xs list values vs starts is same begin draws free begins keeps =
    subst (λ (l : List (Option IntegerValue)). KeepsIntegers l d) is
    (kept d values (length xs) list (ap length is ∙ as_many xs) (subst (AreNoInputs values) same free) draws keeps
    (subst (HaveOne values) (begin ∙ ap (map (λ (v : Var). v.initial)) same) begins))
