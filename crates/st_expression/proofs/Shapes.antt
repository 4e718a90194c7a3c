-- An expression that is read, by its outermost part.
use Rattle.std.proofs.Common.{◌≡◌, Bool, List, ◌∷◌, Some, refl}
use Rattle.st_expression.specs.declared.expression.Operand.{Operand}
use Rattle.st_expression.specs.declared.expression.Expression.{Expression}
use Rattle.st_expression.specs.declared.expression.Expression.TheVariants as tree
use Rattle.st_expression.specs.declared.level.Level.{Level}
use Rattle.st_expression.specs.declared.level.Level.TheVariants.{Primary, Complement, Disjunction}
use Rattle.st_expression.specs.declared.token.Token.{Token}
use Rattle.st_expression.specs.declared.token.Token.TheVariants as token
use Rattle.st_expression.specs.Grammar.{closer, level_of, Reads, operand, constant, parentheses, complement, joined, alone, IsNot, Joins}

pub data Shape (l : Level) (ts rest : List Token) (e : Expression) : Type 0 where
  of_operand : (o : Operand) → l ≡ Primary → ts ≡ token.Operand o ∷ rest → e ≡ tree.Operand o → Shape l ts rest e
  of_constant : (on : Bool) → l ≡ Primary → ts ≡ token.Constant on ∷ rest → e ≡ tree.Constant on → Shape l ts rest e
  of_parentheses : (inside : List Token) → l ≡ Primary → ts ≡ token.Open ∷ inside → Reads Disjunction inside (token.Close ∷ rest) e → Shape l ts rest e
  of_complement : (inside : List Token) (a : Expression) → l ≡ Complement → ts ≡ token.Not ∷ inside → Reads Complement inside rest a → IsNot a e → Shape l ts rest e
  of_joined : (tight : Level) (others : List Token) (operator : Token) (a b : Expression) → closer l ≡ Some tight → level_of operator ≡ Some l
      → Reads tight ts (operator ∷ others) a → Reads l others rest b → Joins operator a b e → Shape l ts rest e
  of_alone : (tight : Level) → closer l ≡ Some tight → Reads tight ts rest e → Shape l ts rest e

pub shape : (l : Level) (ts rest : List Token) (e : Expression) → Reads l ts rest e → Shape l ts rest e
shape _ _ _ _ (operand o rest) = of_operand o refl refl refl
shape _ _ _ _ (constant on rest) = of_constant on refl refl refl
shape _ _ _ _ (parentheses inside rest e r) = of_parentheses inside refl refl r
shape _ _ _ _ (complement inside rest a e r is) = of_complement inside a refl refl r is
shape _ _ _ _ (joined loose tight tokens others rest operator a b e c o r s j) = of_joined tight others operator a b c o r s j
shape _ _ _ _ (alone loose tight tokens rest e c r) = of_alone tight c r
