-- Which inputs an expression names.
use Rattle.std.specs.Prelude.{ℕ, ◌==◌, Bool, false, ◌||◌, Option, Some, None}
use Rattle.st_expression.specs.declared.expression.Operand.TheVariants.{Variable, Output}
use Rattle.st_expression.specs.declared.expression.Expression.{Expression}
use Rattle.st_expression.specs.declared.expression.Expression.TheVariants as tree

-- The input at this place is an operand of the expression.
unfoldable pub is_operand : ℕ → Expression → Bool
is_operand place (tree.Constant on) = false
is_operand place (tree.Operand (Variable number)) = number == place
is_operand place (tree.Operand (Output number)) = false
is_operand place (tree.Not' p a) = is_operand place a
is_operand place (tree.Equal' p a q b) = is_operand place a || is_operand place b
is_operand place (tree.And' p a q b) = is_operand place a || is_operand place b
is_operand place (tree.Exclusive' p a q b) = is_operand place a || is_operand place b
is_operand place (tree.Or' p a q b) = is_operand place a || is_operand place b

-- What is assumed names the input at this place.
abbrev pub is_named : Option Expression → ℕ → Bool
is_named None place = false
is_named (Some e) place = is_operand place e
