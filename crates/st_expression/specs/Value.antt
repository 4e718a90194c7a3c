-- The value of an expression (IEC 61131-3, Structured Text).
use Rattle.std.specs.Prelude.{ℕ, Bool, true, false, not, ◌&&◌, ◌||◌, List, Some, None, slice_get}
use Rattle.st_expression.specs.declared.expression.Operand.{Operand}
use Rattle.st_expression.specs.declared.expression.Operand.TheVariants.{Variable, Output}
use Rattle.st_expression.specs.declared.expression.Expression.{Expression}
use Rattle.st_expression.specs.declared.expression.Expression.TheVariants as tree

-- just one of two is on
abbrev pub differ : Bool → Bool → Bool
differ true b = not b
differ false b = b

-- the value of an expression, where each operand has its own
unfoldable pub value : (Operand → Bool) → Expression → Bool
value env (tree.Constant on) = on
value env (tree.Operand o) = env o
value env (tree.Not' p a) = not (value env a)
value env (tree.Equal' p a q b) = not (differ (value env a) (value env b))
value env (tree.And' p a q b) = value env a && value env b
value env (tree.Exclusive' p a q b) = differ (value env a) (value env b)
value env (tree.Or' p a q b) = value env a || value env b

-- what a list holds at a number: past its end it is off
abbrev pub held : List Bool → ℕ → Bool
held values number = elim (slice_get values number) [ Some on ↦ on | None ↦ false ]

-- what each operand has, by its number
abbrev pub held_by : (values outputs : List Bool) → Operand → Bool
held_by values outputs (Variable number) = held values number
held_by values outputs (Output number) = held outputs number
