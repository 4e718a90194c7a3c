-- INT variables that take constants alone. For each value that one can have there is a BOOL variable, which is ON while it has the value.
use Rattle.std.specs.Prelude.{◌≡◌, ℕ, Bool, true, false, ◌&&◌, ◌==◌, List, Option, Some, None, position, slice_get, slice_index_or}
use Rattle.diagram_declarations.specs.declared.decls.Instance.{Instance}
use Rattle.scan_cycle.specs.Rung.{Held}
use Rattle.st_statements.specs.declared.statement.StatementList.{StatementList}
use Rattle.st_statements.specs.Run.{run}
use Rattle.st_integers.specs.declared.value.IntegerValue.{IntegerValue}

abbrev pub is_of_integer : (integer : ℕ) → Option IntegerValue → Bool
is_of_integer integer (Some v) = v.integer == integer
is_of_integer integer None = false

-- The variable of this number stands for a value of the INT.
abbrev pub stands_for : List (Option IntegerValue) → (integer variable : ℕ) → Bool
stands_for values integer variable = is_of_integer integer (slice_index_or values variable None)

abbrev pub is_value : (integer n : ℕ) → Option IntegerValue → Bool
is_value integer n (Some v) = v.integer == integer && v.value == n
is_value integer n None = false

-- the variable that is ON while the INT has this value
abbrev pub variable_with : List (Option IntegerValue) → (integer n : ℕ) → Option ℕ
variable_with values integer n = position (is_value integer n) values

-- Of the variables that stand for the values of the INT exactly one is ON.
pub record HasOne (values : List (Option IntegerValue)) (on : List Bool) (integer : ℕ) : Type 0 where
  pub variable : ℕ
  pub is_one : stands_for values integer variable ≡ true
  pub each : (k : ℕ) → stands_for values integer k ≡ true → slice_get on k ≡ Some (k == variable)

-- The same of each INT that has a value.
abbrev pub HaveOne : List (Option IntegerValue) → List Bool → Type 0
HaveOne values on = (integer k : ℕ) → stands_for values integer k ≡ true → HasOne values on integer

-- Where each INT has one of its values, it has one when the statements have been run.
abbrev pub KeepOne : List (Option IntegerValue) → StatementList → Type 0
KeepOne values list = (instances : List Instance) (now : ℕ) (h : Held) → HaveOne values h.values → HaveOne values (run instances now list h).held.values
