-- What a setting leaves.
use Rattle.std.proofs.Common.{◌≡◌, ◌≢◌, ◌∙◌, ℕ, ◌+◌, ◌<◌, Bool, true, false, ◌==◌, if◌then◌else◌, List, [], ◌∷◌, Option, Some, None, length, slice_get, get_or, zero, suc, refl, sym, ap, subst, arith, inl, inr, length-set, true≢false}
use Rattle.std.proofs.lemmas.Bool.{cases_eq}
use Rattle.std.proofs.lemmas.Option.{slice_get_within}
use Rattle.diagram_declarations.specs.declared.decls.Instance.{Instance}
use Rattle.scan_cycle.specs.Rung as rung
use Rattle.st_expression.specs.declared.expression.Expression.TheVariants.{Constant}
use Rattle.st_expression.specs.Grammar as grammar
use Rattle.st_expression.specs.Value.{value}
use Rattle.st_statements.specs.declared.statement.StatementList.{StatementList}
use Rattle.st_statements.specs.declared.statement.StatementList.TheVariants.{Assign'}
use Rattle.st_statements.specs.Run.{assigned, run}
use Rattle.st_integers.specs.declared.value.IntegerValue.{IntegerValue}
use Rattle.st_integers.specs.Values.{HaveOne, is_of_integer, stands_for}
use Rattle.st_integers.specs.Settings.{IsSetting}
use Rattle.st_integers.proofs.Places.{at_other, at_same, of_one}

abbrev written : Bool → (number chosen : ℕ) → rung.Held → rung.Held
written b number chosen h = if b then assigned number (number == chosen) h else h

-- what the assignments of a setting leave, from a variable on
abbrev pub after : List (Option IntegerValue) → (integer chosen number : ℕ) → rung.Held → rung.Held
after [] integer chosen number h = h
after (v ∷ vs) integer chosen number h = after vs integer chosen (number + 1) (written (is_of_integer integer v) number chosen h)

written_other : (b : Bool) (number chosen k : ℕ) (h : rung.Held) → k ≢ number → slice_get (written b number chosen h).values k ≡ slice_get h.values k
written_other true number chosen k h apart = at_other h.values number k (number == chosen) apart
written_other false number chosen k h apart = refl

length_written : (b : Bool) (number chosen : ℕ) (h : rung.Held) → length (written b number chosen h).values ≡ length h.values
length_written true number chosen h = length-set h.values number (number == chosen)
length_written false number chosen h = refl

below : (vs : List (Option IntegerValue)) (integer chosen number k : ℕ) (h : rung.Held) → k < number → slice_get (after vs integer chosen number h).values k ≡ slice_get h.values k
below [] integer chosen number k h lt = refl
below (v ∷ vs) integer chosen number k h lt =
    below vs integer chosen (number + 1) k (written (is_of_integer integer v) number chosen h) (omega (arith, lt))
    ∙ written_other (is_of_integer integer v) number chosen k h (λ same. omega (arith, lt, same))

-- a variable that doesn't stand for a value of the INT
unset : (vs : List (Option IntegerValue)) (integer chosen number j k : ℕ) (h : rung.Held) → k ≡ number + j → is_of_integer integer (get_or vs j None) ≡ false
    → slice_get (after vs integer chosen number h).values k ≡ slice_get h.values k
unset [] integer chosen number j k h at t = refl
unset (v ∷ vs) integer chosen number zero k h at t =
    below vs integer chosen (number + 1) k (written (is_of_integer integer v) number chosen h) (omega (arith, at))
    ∙ ap (λ b. slice_get (written b number chosen h).values k) t
unset (v ∷ vs) integer chosen number (suc j) k h at t =
    unset vs integer chosen (number + 1) j k (written (is_of_integer integer v) number chosen h) (omega (arith, at)) t
    ∙ written_other (is_of_integer integer v) number chosen k h (λ same. omega (arith, at, same))

-- a variable that does
set_on : (vs : List (Option IntegerValue)) (integer chosen number j k : ℕ) (h : rung.Held) → k ≡ number + j → is_of_integer integer (get_or vs j None) ≡ true
    → k < length h.values → slice_get (after vs integer chosen number h).values k ≡ Some (k == chosen)
set_on [] integer chosen number j k h at t lt = absurd (true≢false (sym t))
set_on (v ∷ vs) integer chosen number zero k h at t lt =
    let here : number ≡ k = omega (arith, at) in
    below vs integer chosen (number + 1) k (written (is_of_integer integer v) number chosen h) (omega (arith, at))
    ∙ ap (λ b. slice_get (written b number chosen h).values k) t
    ∙ subst (λ n. slice_get (assigned n (n == chosen) h).values k ≡ Some (k == chosen)) (sym here) (at_same h.values k (k == chosen) lt)
set_on (v ∷ vs) integer chosen number (suc j) k h at t lt =
    set_on vs integer chosen (number + 1) j k (written (is_of_integer integer v) number chosen h) (omega (arith, at)) t
    (omega (arith, lt, length_written (is_of_integer integer v) number chosen h))

abbrev pub step : Bool → List (Option IntegerValue) → (integer chosen number : ℕ) → (others whole : StatementList) → Type 0
step b vs integer chosen number others whole =
    elim b [
      | true ↦ (between : StatementList) × (p : grammar.Held) × (whole ≡ Assign' number (Constant (number == chosen)) p between)
          × IsSetting vs integer chosen (number + 1) others between
      | false ↦ IsSetting vs integer chosen (number + 1) others whole
    ]

module _ (instances : List Instance) (now : ℕ) where
  runs_on : (b : Bool) (vs : List (Option IntegerValue)) (integer chosen number : ℕ) (others whole : StatementList) (h : rung.Held)
      → ((between : StatementList) (g : rung.Held) → IsSetting vs integer chosen (number + 1) others between
      → run instances now between g ≡ run instances now others (after vs integer chosen (number + 1) g))
      → step b vs integer chosen number others whole → run instances now whole h ≡ run instances now others (after vs integer chosen (number + 1) (written b number chosen h))
  unfolding run value
  runs_on true vs integer chosen number others whole h more is =
      ap (λ (l : StatementList). run instances now l h) is.2 ∙ more is.0 (assigned number (number == chosen) h) is.3
  runs_on false vs integer chosen number others whole h more is = more whole h is

  pub runs : (vs : List (Option IntegerValue)) (integer chosen number : ℕ) (others whole : StatementList) (h : rung.Held) → IsSetting vs integer chosen number others whole
      → run instances now whole h ≡ run instances now others (after vs integer chosen number h)
  runs [] integer chosen number others whole h is = ap (λ (l : StatementList). run instances now l h) is
  runs (v ∷ vs) integer chosen number others whole h is =
      runs_on (is_of_integer integer v) vs integer chosen number others whole h (λ between g more. runs vs integer chosen (number + 1) others between g more) is

pub sets_one : (values : List (Option IntegerValue)) (integer chosen : ℕ) (h : rung.Held) → stands_for values integer chosen ≡ true → HaveOne values h.values
    → HaveOne values (after values integer chosen 0 h).values
sets_one values integer chosen h is one = λ other k t. elim (cases_eq other integer) [
  | inl same ↦ record {
    variable = chosen;
    is_one = subst (λ i. stands_for values i chosen ≡ true) (sym same) is;
    each = λ j s.
        set_on values integer chosen 0 j j h (omega arith) (subst (λ i. stands_for values i j ≡ true) same s)
        (slice_get_within h.values j _ ((one other j s).each j s));
  }
  | inr apart ↦
      let was = one other k t in
      record {
        variable = was.variable;
        is_one = was.is_one;
        each = λ j s. unset values integer chosen 0 j j h (omega arith) (of_one integer other (get_or values j None) apart s) ∙ was.each j s;
      }
]
