-- Expressions of Structured Text over BOOL values (IEC 61131-3:2013, Table 71): NOT binds closest, then `=` and `<>`, then AND, then
-- XOR, then OR.
use Rattle.std.specs.Prelude.{◌≡◌, ℕ, ◌+◌, Bool, Box, List, [], ◌∷◌, Option, Some, None}
use Rattle.std.specs.Global.{Global}
use Rattle.st_expression.specs.declared.expression.Operand.{Operand}
use Rattle.st_expression.specs.declared.expression.Expression.{Expression}
use Rattle.st_expression.specs.declared.expression.Expression.TheVariants as tree
use Rattle.st_expression.specs.declared.level.Level.{Level}
use Rattle.st_expression.specs.declared.level.Level.TheVariants.{Primary, Complement, Equality, Conjunction, Exclusion, Disjunction}
use Rattle.st_expression.specs.declared.token.Token.{Token}
use Rattle.st_expression.specs.declared.token.Token.TheVariants as token

-- the next closer level
abbrev pub closer : Level → Option Level
closer Primary = None
closer Complement = Some Primary
closer Equality = Some Complement
closer Conjunction = Some Equality
closer Exclusion = Some Conjunction
closer Disjunction = Some Exclusion

-- the level of an operator between two expressions
abbrev pub level_of : Token → Option Level
level_of token.Equal = Some Equality
level_of token.Unequal = Some Equality
level_of token.And = Some Conjunction
level_of token.Exclusive = Some Exclusion
level_of token.Or = Some Disjunction
level_of _ = None

-- the memory that a part of an expression is in
abbrev pub Held : Type 0
Held = Box (Unit {0}) Global

-- The tree is NOT of another.
abbrev pub IsNot : (a e : Expression) → Type 0
IsNot a e = (p : Held) × (e ≡ tree.Not' p a)

-- The tree is two others with the operator between them. `<>` and XOR have one tree.
abbrev pub Joins : Token → (a b e : Expression) → Type 0
Joins token.Equal a b e = (p q : Held) × (e ≡ tree.Equal' p a q b)
Joins token.Unequal a b e = (p q : Held) × (e ≡ tree.Exclusive' p a q b)
Joins token.And a b e = (p q : Held) × (e ≡ tree.And' p a q b)
Joins token.Exclusive a b e = (p q : Held) × (e ≡ tree.Exclusive' p a q b)
Joins token.Or a b e = (p q : Held) × (e ≡ tree.Or' p a q b)
Joins _ a b e = ⊥

-- The tokens begin with an expression of this level, which the tree is, and the rest is behind it. Operators of one level are taken together
-- from the right.
pub data Reads : Level → (tokens rest : List Token) → Expression → Type 0 where
  operand : (o : Operand) (rest : List Token) → Reads Primary (token.Operand o ∷ rest) rest (tree.Operand o)
  constant : (on : Bool) (rest : List Token) → Reads Primary (token.Constant on ∷ rest) rest (tree.Constant on)
  parentheses : (inside rest : List Token) (e : Expression) → Reads Disjunction inside (token.Close ∷ rest) e
      → Reads Primary (token.Open ∷ inside) rest e
  complement : (inside rest : List Token) (a e : Expression) → Reads Complement inside rest a → IsNot a e
      → Reads Complement (token.Not ∷ inside) rest e
  joined : (loose tight : Level) (tokens others rest : List Token) (operator : Token) (a b e : Expression)
      → closer loose ≡ Some tight → level_of operator ≡ Some loose
      → Reads tight tokens (operator ∷ others) a → Reads loose others rest b → Joins operator a b e → Reads loose tokens rest e
  alone : (loose tight : Level) (tokens rest : List Token) (e : Expression) → closer loose ≡ Some tight → Reads tight tokens rest e
      → Reads loose tokens rest e

-- The tokens begin with an expression, and the rest is behind it.
abbrev pub IsExpression : (tokens rest : List Token) → Expression → Type 0
IsExpression tokens rest e = Reads Disjunction tokens rest e

-- No operator begins the tokens, with which an expression before them could go on.
abbrev pub NoOperator : List Token → Type 0
NoOperator [] = Unit {0}
NoOperator (t ∷ ts) = level_of t ≡ None

-- How many opening parentheses, NOTs and operators come before the first token that no expression has.
unfoldable pub nesting : List Token → ℕ
nesting [] = 0
nesting (token.Operand o ∷ ts) = nesting ts
nesting (token.Constant on ∷ ts) = nesting ts
nesting (token.Close ∷ ts) = nesting ts
nesting (token.Other ∷ ts) = 0
nesting (_ ∷ ts) = nesting ts + 1
