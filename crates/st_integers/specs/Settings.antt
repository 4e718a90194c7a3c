-- An INT is set: the variable of the value is switched on, and the others off.
use Rattle.std.specs.Prelude.{◌≡◌, ℕ, ◌+◌, Bool, true, false, ◌==◌, if◌then◌else◌, List, [], ◌∷◌, Option, Some, None, slice_index_or}
use Rattle.st_expression.specs.declared.expression.Expression.{Expression}
use Rattle.st_expression.specs.declared.expression.Expression.TheVariants.{Constant}
use Rattle.st_expression.specs.Grammar.{Held}
use Rattle.st_statements.specs.declared.statement.StatementList.{StatementList}
use Rattle.st_statements.specs.declared.statement.StatementList.TheVariants.{End, Assign', Trigger', Call', Select', Return'}
use Rattle.st_integers.specs.declared.value.IntegerValue.{IntegerValue}
use Rattle.st_integers.specs.Values.{is_of_integer, stands_for}

-- The list begins with an assignment of a constant.
abbrev pub IsConstant : (variable : ℕ) → (on : Bool) → (next list : StatementList) → Type 0
IsConstant variable on next list = (p : Held) × (list ≡ Assign' variable (Constant on) p next)

-- The list assigns the variables from this number on that stand for values of the INT, each in its order, before the other statements.
abbrev pub IsSetting : List (Option IntegerValue) → (integer chosen number : ℕ) → (others whole : StatementList) → Type 0
IsSetting [] integer chosen number others whole = whole ≡ others
IsSetting (v ∷ vs) integer chosen number others whole =
    elim (is_of_integer integer v) [
      | true ↦ (between : StatementList) × (p : Held) × (whole ≡ Assign' number (Constant (number == chosen)) p between)
          × IsSetting vs integer chosen (number + 1) others between
      | false ↦ IsSetting vs integer chosen (number + 1) others whole
    ]

-- The list sets the INT to one of its values.
pub record Sets (values : List (Option IntegerValue)) (integer : ℕ) (others whole : StatementList) : Type 0 where
  pub chosen : ℕ
  pub is_value : stands_for values integer chosen ≡ true
  pub setting : IsSetting values integer chosen 0 others whole

-- The statements write the variables that stand for values by settings alone.
pub data BySettings (values : List (Option IntegerValue)) : StatementList → Type 0 where
  at_end : BySettings values End
  at_setting : (integer : ℕ) (others whole : StatementList) → Sets values integer others whole → BySettings values others → BySettings values whole
  at_assign : (variable : ℕ) (e : Expression) (p : Held) (next : StatementList) → slice_index_or values variable None ≡ None → BySettings values next
      → BySettings values (Assign' variable e p next)
  at_trigger : (output memory : ℕ) (e : Expression) (p : Held) (next : StatementList) → slice_index_or values output None ≡ None → BySettings values next
      → BySettings values (Trigger' output memory e p next)
  at_call : (i : ℕ) (x y : Expression) (p : Held) (next : StatementList) → BySettings values next → BySettings values (Call' i x y p next)
  at_select : (e : Expression) (p q r : Held) (accepted otherwise next : StatementList) → BySettings values accepted → BySettings values otherwise → BySettings values next
      → BySettings values (Select' e p accepted q otherwise r next)
  at_return : (p : Held) (next : StatementList) → BySettings values (Return' p next)

-- Private: whether it is the constant TRUE.
abbrev pub is_on : Expression → Bool
is_on (Constant on) = on
is_on _ = false

-- Private: the variable that the first assignment of TRUE switches on.
unfoldable pub switched_on : StatementList → Option ℕ
switched_on (Assign' variable e p next) = if is_on e then Some variable else switched_on next
switched_on _ = None
