-- Laws over the definitions.
use Rattle.std.specs.Prelude.{◌≡◌, Bool, List, ◌++◌}
use Rattle.st_expression.specs.declared.expression.Operand.{Operand}
use Rattle.st_expression.specs.declared.expression.Expression.{Expression}
use Rattle.st_expression.specs.declared.token.Token.{Token}
use Rattle.st_expression.specs.Grammar.{IsExpression, Joins, NoOperator, level_of}
use Rattle.st_expression.specs.Value.{value}

-- The longest expression that begins some tokens ends at one place, and has one value. So the same tokens are no two expressions of
-- different value.
abbrev pub IsUnambiguous : Type 0
IsUnambiguous = (tokens r s : List Token) (a b : Expression) → IsExpression tokens r a → IsExpression tokens s b → NoOperator r → NoOperator s
    → (r ≡ s) × ((env : Operand → Bool) → value env a ≡ value env b)

-- Two operators of one level between three expressions, `a first b second c`, have one value whichever is taken first. So it doesn't matter
-- that a chain is read from the right.
abbrev pub IsEitherWay : Type 0
IsEitherWay = (first second : Token) (a b c ab bc left right : Expression) → level_of first ≡ level_of second
    → Joins first a b ab → Joins second ab c left → Joins second b c bc → Joins first a bc right
    → (env : Operand → Bool) → value env left ≡ value env right

-- The tokens of an expression are those before the rest, and they are that expression whatever the rest is.
abbrev pub HasTokens : Type 0
HasTokens = (tokens rest : List Token) (e : Expression) → IsExpression tokens rest e
    → (own : List Token) × (tokens ≡ own ++ rest) × ((other : List Token) → IsExpression (own ++ other) other e)
