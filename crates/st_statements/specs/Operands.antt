-- Private: what expressions and statements look at.
use Rattle.std.specs.Prelude.{◌≡◌, ℕ, Bool, true, false, ◌&&◌, ◌||◌, ◌==◌, nat_lt}
use Rattle.st_expression.specs.declared.expression.Operand.{Operand}
use Rattle.st_expression.specs.declared.expression.Operand.TheVariants.{Variable, Output}
use Rattle.st_expression.specs.declared.expression.Expression.{Expression}
use Rattle.st_expression.specs.declared.expression.Expression.TheVariants as tree
use Rattle.st_expression.specs.Value.{value}
use Rattle.st_statements.specs.declared.statement.StatementList.{StatementList}
use Rattle.st_statements.specs.declared.statement.StatementList.TheVariants.{End, Assign', Trigger', Call', Select', Return'}

abbrev pub is_variable : ℕ → Operand → Bool
is_variable variable (Variable number) = number == variable
is_variable variable (Output number) = false

-- The expression looks at the variable.
unfoldable pub reads : ℕ → Expression → Bool
reads variable (tree.Constant on) = false
reads variable (tree.Operand o) = is_variable variable o
reads variable (tree.Not' p a) = reads variable a
reads variable (tree.Equal' p a q b) = reads variable a || reads variable b
reads variable (tree.And' p a q b) = reads variable a || reads variable b
reads variable (tree.Exclusive' p a q b) = reads variable a || reads variable b
reads variable (tree.Or' p a q b) = reads variable a || reads variable b

abbrev pub is_below : ℕ → Operand → Bool
is_below variables (Variable number) = nat_lt number variables
is_below variables (Output number) = true

-- The expression looks at the first so many variables alone.
unfoldable pub is_within : ℕ → Expression → Bool
is_within variables (tree.Constant on) = true
is_within variables (tree.Operand o) = is_below variables o
is_within variables (tree.Not' p a) = is_within variables a
is_within variables (tree.Equal' p a q b) = is_within variables a && is_within variables b
is_within variables (tree.And' p a q b) = is_within variables a && is_within variables b
is_within variables (tree.Exclusive' p a q b) = is_within variables a && is_within variables b
is_within variables (tree.Or' p a q b) = is_within variables a && is_within variables b

-- The statements look at the first so many variables alone, and write no others.
unfoldable pub are_within : ℕ → StatementList → Bool
are_within variables End = true
are_within variables (Assign' variable e p next) = nat_lt variable variables && (is_within variables e && are_within variables next)
are_within variables (Trigger' output memory e p next) = nat_lt output variables && (is_within variables e && are_within variables next)
are_within variables (Call' i x y p next) = is_within variables x && (is_within variables y && are_within variables next)
are_within variables (Select' e p accepted q otherwise r next) =
    is_within variables e && (are_within variables accepted && (are_within variables otherwise && are_within variables next))
are_within variables (Return' p next) = are_within variables next
