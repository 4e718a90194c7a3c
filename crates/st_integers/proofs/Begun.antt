-- What a list written by settings has, by its first statement.
use Rattle.std.proofs.Common.{◌≡◌, ◌∙◌, ℕ, ◌+◌, ◌≤◌, Bool, true, false, ◌==◌, ◌⊎◌, List, [], ◌∷◌, Option, Some, None, get_or, length, zero, suc, sym, ap, subst, arith, inl, inr, true≢false}
use Rattle.std.proofs.lemmas.Bool.{cases_Bool, cond-false, cond-true, eq-eqb, eqb-true, ne_eqb}
use Rattle.std.proofs.lemmas.Option.{none-some}
use Rattle.st_expression.specs.declared.expression.Expression.{Expression}
use Rattle.st_expression.specs.Grammar.{Held}
use Rattle.st_statements.specs.declared.statement.StatementList.{StatementList}
use Rattle.st_statements.specs.declared.statement.StatementList.TheVariants.{End, Assign', Trigger', Call', Select', Return'}
use Rattle.st_integers.specs.declared.value.IntegerValue.{IntegerValue}
use Rattle.st_integers.specs.Values.{is_of_integer, stands_for}
use Rattle.st_integers.specs.Settings.{BySettings, IsConstant, IsSetting, Sets, at_end, at_setting, at_assign, at_trigger, at_call, at_select, at_return, switched_on}
use Rattle.st_integers.proofs.Settings.{step}

abbrev next_of : StatementList → StatementList
next_of (Assign' variable e p next) = next
next_of _ = End

abbrev pub variable_of : StatementList → Option ℕ
variable_of (Assign' variable e p next) = Some variable
variable_of _ = None

-- A setting begins with an assignment to a variable of its INT.
pub record Begins (vs : List (Option IntegerValue)) (integer number : ℕ) (whole : StatementList) : Type 0 where
  pub place : ℕ
  pub variable : variable_of whole ≡ Some (number + place)
  pub stands : is_of_integer integer (get_or vs place None) ≡ true

begins : (vs : List (Option IntegerValue)) (integer chosen number j : ℕ) (others whole : StatementList) → is_of_integer integer (get_or vs j None) ≡ true
    → IsSetting vs integer chosen number others whole → Begins vs integer number whole
begins [] integer chosen number j others whole t is = absurd (true≢false (sym t))
begins (v ∷ vs) integer chosen number zero others whole t is =
    let first : step true vs integer chosen number others whole = subst (λ b. step b vs integer chosen number others whole) t is in
    let same : number ≡ number + 0 = omega arith in
    record { place = 0; variable = ap variable_of first.2 ∙ ap Some same; stands = t }
begins (v ∷ vs) integer chosen number (suc j) others whole t is = elim (cases_Bool (is_of_integer integer v)) [
  | inl here ↦
      let first : step true vs integer chosen number others whole = subst (λ b. step b vs integer chosen number others whole) here is in
      let same : number ≡ number + 0 = omega arith in
      record { place = 0; variable = ap variable_of first.2 ∙ ap Some same; stands = here }
  | inr off ↦
      let more = begins vs integer chosen (number + 1) j others whole t (subst (λ b. step b vs integer chosen number others whole) off is) in
      let same : number + 1 + more.place ≡ number + suc more.place = omega arith in
      record { place = suc more.place; variable = more.variable ∙ ap Some same; stands = more.stands }
]

-- The statements behind a setting are those of the list alone.
one_rest_on : (b : Bool) (vs : List (Option IntegerValue)) (integer chosen number : ℕ) (others rest whole : StatementList)
    → ((between : StatementList) → IsSetting vs integer chosen (number + 1) others between → IsSetting vs integer chosen (number + 1) rest between → others ≡ rest)
    → step b vs integer chosen number others whole → step b vs integer chosen number rest whole → others ≡ rest
one_rest_on true vs integer chosen number others rest whole more x y =
    let same : x.0 ≡ y.0 = ap next_of (sym x.2 ∙ y.2) in
    more y.0 (subst (λ l. IsSetting vs integer chosen (number + 1) others l) same x.3) y.3
one_rest_on false vs integer chosen number others rest whole more x y = more whole x y

pub one_rest : (vs : List (Option IntegerValue)) (integer chosen number : ℕ) (others rest whole : StatementList) → IsSetting vs integer chosen number others whole
    → IsSetting vs integer chosen number rest whole → others ≡ rest
one_rest [] integer chosen number others rest whole x y = sym x ∙ y
one_rest (v ∷ vs) integer chosen number others rest whole x y =
    one_rest_on (is_of_integer integer v) vs integer chosen number others rest whole (λ between a b. one_rest vs integer chosen (number + 1) others rest between a b) x y

-- The first assignment of TRUE is that of the chosen variable.
chosen_from : (vs : List (Option IntegerValue)) (integer chosen number j : ℕ) (others whole : StatementList) → chosen ≡ number + j → is_of_integer integer (get_or vs j None) ≡ true
    → IsSetting vs integer chosen number others whole → switched_on whole ≡ Some chosen
unfolding switched_on
chosen_from [] integer chosen number j others whole at t is = absurd (true≢false (sym t))
chosen_from (v ∷ vs) integer chosen number zero others whole at t is =
    let first : step true vs integer chosen number others whole = subst (λ b. step b vs integer chosen number others whole) t is in
    let same : number ≡ chosen = omega (arith, at) in
    ap switched_on first.2 ∙ cond-true (number == chosen) (Some number) (switched_on first.0) (eq-eqb _ _ same) ∙ ap Some same
chosen_from (v ∷ vs) integer chosen number (suc j) others whole at t is = elim (cases_Bool (is_of_integer integer v)) [
  | inl here ↦
      let first : step true vs integer chosen number others whole = subst (λ b. step b vs integer chosen number others whole) here is in
      ap switched_on first.2
      ∙ cond-false (number == chosen) (Some number) (switched_on first.0) (ne_eqb _ _ (λ same. omega (arith, at, same)))
      ∙ chosen_from vs integer chosen (number + 1) j others first.0 (omega (arith, at)) t first.3
  | inr off ↦ chosen_from vs integer chosen (number + 1) j others whole (omega (arith, at)) t (subst (λ b. step b vs integer chosen number others whole) off is)
]

pub chosen_is : (values : List (Option IntegerValue)) (integer : ℕ) (others whole : StatementList) → (sets : Sets values integer others whole) → switched_on whole ≡ Some sets.chosen
chosen_is values integer others whole sets = chosen_from values integer sets.chosen 0 sets.chosen others whole (omega arith) sets.is_value sets.setting

some_is : (m n : ℕ) → Some m ≡ Some n → m ≡ n
some_is m n same = cc

pub is_chosen : (values : List (Option IntegerValue)) (integer chosen : ℕ) (others whole : StatementList) → Some chosen ≡ switched_on whole → (sets : Sets values integer others whole)
    → chosen ≡ sets.chosen
is_chosen values integer chosen others whole found sets = some_is _ _ (found ∙ chosen_is values integer others whole sets)

-- The assignment that a setting begins with, where the first variable is one of the INT.
pub first_constant : (vs : List (Option IntegerValue)) (integer chosen number : ℕ) (others whole : StatementList) → 1 ≤ length vs
    → is_of_integer integer (get_or vs 0 None) ≡ true → IsSetting vs integer chosen number others whole → (next : StatementList) × IsConstant number (number == chosen) next whole
first_constant [] integer chosen number others whole one t is = absurd (omega (arith, one))
first_constant (v ∷ vs) integer chosen number others whole one t is =
    let first : step true vs integer chosen number others whole = subst (λ b. step b vs integer chosen number others whole) t is in
    (first.0, (first.1, first.2))

-- So a list is a setting before one rest at most.
pub sets_once : (values : List (Option IntegerValue)) (integer : ℕ) (others rest whole : StatementList) → Sets values integer others whole → Sets values integer rest whole → others ≡ rest
sets_once values integer others rest whole x y =
    let same : y.chosen ≡ x.chosen = some_is _ _ (sym (chosen_is values integer rest whole y) ∙ chosen_is values integer others whole x) in
    one_rest values integer x.chosen 0 others rest whole x.setting (subst (λ n. IsSetting values integer n 0 rest whole) same y.setting)

-- The variable that a setting assigns first.
pub first_is : (values : List (Option IntegerValue)) (integer : ℕ) (others whole : StatementList) → Sets values integer others whole
    → (variable : ℕ) × (variable_of whole ≡ Some variable) × (stands_for values integer variable ≡ true)
first_is values integer others whole sets =
    let b = begins values integer sets.chosen 0 sets.chosen others whole sets.is_value sets.setting in
    let same : 0 + b.place ≡ b.place = omega arith in
    (b.place, b.variable ∙ ap Some same, b.stands)

-- What a list that is written by settings has behind its first statement.
abbrev pub Part : List (Option IntegerValue) → StatementList → Type 0
Part values End = Unit {0}
Part values (Assign' variable e p next) =
    ((get_or values variable None ≡ None) × BySettings values next)
    ⊎ ((integer : ℕ) × (others : StatementList) × Sets values integer others (Assign' variable e p next) × BySettings values others)
Part values (Trigger' output memory e p next) = (get_or values output None ≡ None) × BySettings values next
Part values (Call' i x y p next) = BySettings values next
Part values (Select' e p accepted q otherwise r next) = BySettings values accepted × BySettings values otherwise × BySettings values next
Part values (Return' p next) = Unit {0}

set_part : (values : List (Option IntegerValue)) (integer : ℕ) (others whole : StatementList) → Sets values integer others whole → BySettings values others → Part values whole
set_part values integer others End sets more = tt
set_part values integer others (Assign' variable e p next) sets more = inr (integer, others, sets, more)
set_part values integer others (Trigger' output memory e p next) sets more = absurd (none-some _ (first_is values integer others (Trigger' output memory e p next) sets).1)
set_part values integer others (Call' i x y p next) sets more = absurd (none-some _ (first_is values integer others (Call' i x y p next) sets).1)
set_part values integer others (Select' e p accepted q otherwise r next) sets more =
    absurd (none-some _ (first_is values integer others (Select' e p accepted q otherwise r next) sets).1)
set_part values integer others (Return' p next) sets more = tt

pub part : (values : List (Option IntegerValue)) (list : StatementList) → BySettings values list → Part values list
part values _ at_end = tt
part values _ (at_setting integer others whole sets more) = set_part values integer others whole sets more
part values _ (at_assign variable e p next none more) = inl (none, more)
part values _ (at_trigger output memory e p next none more) = (none, more)
part values _ (at_call i x y p next more) = more
part values _ (at_select e p q r accepted otherwise next one two three) = (one, two, three)
part values _ (at_return p next) = tt

-- an assignment to a variable that stands for no value
pub behind_other : (values : List (Option IntegerValue)) (variable : ℕ) (e : Expression) (p : Held) (next : StatementList) → get_or values variable None ≡ None
    → BySettings values (Assign' variable e p next) → BySettings values next
behind_other values variable e p next none by = elim (part values (Assign' variable e p next) by) [
  | inl x ↦ x.1
  | inr x ↦
      let first = first_is values x.0 x.1 (Assign' variable e p next) x.2 in
      let same : variable ≡ first.0 = some_is _ _ first.1 in
      let stands : is_of_integer x.0 (get_or values variable None) ≡ true = subst (λ i. stands_for values x.0 i ≡ true) (sym same) first.2 in
      absurd (true≢false (sym stands ∙ ap (is_of_integer x.0) none))
]

pub record Set (values : List (Option IntegerValue)) (integer : ℕ) (whole : StatementList) : Type 0 where
  pub others : StatementList
  pub sets : Sets values integer others whole
  pub more : BySettings values others

-- an assignment to one that stands for a value
pub behind_set : (values : List (Option IntegerValue)) (variable : ℕ) (e : Expression) (p : Held) (next : StatementList) (of : IntegerValue)
    → get_or values variable None ≡ Some of → BySettings values (Assign' variable e p next) → Set values of.integer (Assign' variable e p next)
behind_set values variable e p next of is by = elim (part values (Assign' variable e p next) by) [
  | inl x ↦ absurd (none-some of (sym x.0 ∙ is))
  | inr x ↦
      let first = first_is values x.0 x.1 (Assign' variable e p next) x.2 in
      let same : variable ≡ first.0 = some_is _ _ first.1 in
      let stands : is_of_integer x.0 (get_or values variable None) ≡ true = subst (λ i. stands_for values x.0 i ≡ true) (sym same) first.2 in
      let one : of.integer ≡ x.0 = eqb-true _ _ (sym (ap (is_of_integer x.0) is) ∙ stands) in
      record { others = x.1; sets = subst (λ i. Sets values i x.1 (Assign' variable e p next)) (sym one) x.2; more = x.3 }
]

pub found_set : (values : List (Option IntegerValue)) (variable : ℕ) (e : Expression) (p : Held) (next : StatementList) (of : IntegerValue) (list : StatementList)
    → get_or values variable None ≡ Some of → list ≡ Assign' variable e p next → BySettings values list → Set values of.integer list
found_set values variable e p next of list is begun by =
    subst (Set values of.integer) (sym begun) (behind_set values variable e p next of is (subst (BySettings values) begun by))
