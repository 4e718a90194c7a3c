-- Private: what the reader of one level tells.
use Rattle.std.specs.Prelude.{◌≡◌, ℕ, ◌<◌, List, [], ◌∷◌, Some, IfSome}
use Rattle.st_expression.specs.declared.expression.Expression.{Expression}
use Rattle.st_expression.specs.declared.fault.ReadFault.{ReadFault}
use Rattle.st_expression.specs.declared.fault.ReadFault.TheVariants as fault
use Rattle.st_expression.specs.declared.level.Level.{Level}
use Rattle.st_expression.specs.declared.level.Level.TheVariants.{Primary, Complement, Equality, Conjunction, Exclusion, Disjunction}
use Rattle.st_expression.specs.declared.token.Token.{Token}
use Rattle.st_expression.specs.Grammar.{Reads, level_of, nesting}

-- how loosely a level binds
abbrev pub looseness : Level → ℕ
looseness Primary = 0
looseness Complement = 1
looseness Equality = 2
looseness Conjunction = 3
looseness Exclusion = 4
looseness Disjunction = 5

-- No operator of this level or a closer one begins the tokens.
abbrev pub Ends : Level → List Token → Type 0
Ends level [] = Unit {0}
Ends level (t ∷ ts) = IfSome (level_of t) (λ other. looseness level < looseness other)

-- No operator of just this level begins the tokens.
abbrev pub NotAt : Level → List Token → Type 0
NotAt level [] = Unit {0}
NotAt level (t ∷ ts) = level_of t ≡ Some level → ⊥

-- An expression of this level begins the tokens, and can't go on.
pub record Begins (level : Level) (tokens rest : List Token) (e : Expression) : Type 0 where
  pub reads : Reads level tokens rest e
  pub ends : Ends level rest

-- Why none does, where no more than so many may stand within one another.
abbrev pub Fails : Level → ℕ → List Token → ReadFault → Type 0
Fails level left tokens fault.Memory = Unit {0}
Fails level left tokens fault.NoExpression = (rest : List Token) (e : Expression) → Begins level tokens rest e → ⊥
Fails level left tokens fault.TooDeep = left < nesting tokens
