-- Several assumptions, of which all are assumed.
use Rattle.std.specs.Prelude.{◌≡◌, ℕ, ◌+◌, List, [], ◌∷◌, ◌++◌, length, Option, Some, None}
use Rattle.st_expression.specs.declared.expression.Expression.{Expression}
use Rattle.st_expression.specs.declared.token.Token.TheVariants as token
use Rattle.st_expression.specs.Grammar.{Joins}
use Rattle.diagram_declarations.specs.Decls.{Declared}
use Rattle.assume_reading.specs.declared.fault.AssumptionFault.{AssumptionFault}
use Rattle.assume_reading.specs.Reading.{IsAssumption, Refuses}

-- What was assumed before, if anything was, AND this.
abbrev pub IsWith : (before : Option Expression) → (next all : Expression) → Type 0
IsWith None next all = all ≡ next
IsWith (Some before) next all = Joins token.And before next all

-- What was assumed before AND what each of the texts says.
abbrev pub AreWith : Declared → (before : Option Expression) → (texts : List (List ℕ)) → (all : Option Expression) → Type 0
AreWith decls before [] all = all ≡ before
AreWith decls before (text ∷ texts) all =
    (next more : Expression) × IsAssumption decls text next × IsWith before next more × AreWith decls (Some more) texts all

-- What each of the texts says, joined by AND; None where there is no text.
abbrev pub AreAssumptions : Declared → (texts : List (List ℕ)) → (all : Option Expression) → Type 0
AreAssumptions decls texts all = AreWith decls None texts all

-- The text of this number, counted from 1, is refused, and those before it are read.
pub record IsFirstRefused (decls : Declared) (texts : List (List ℕ)) (number : ℕ) (fault : AssumptionFault) : Type 0 where
  pub before : List (List ℕ)
  pub text : List ℕ
  pub behind : List (List ℕ)
  pub whole : texts ≡ before ++ text ∷ behind
  pub count : number ≡ length before + 1
  pub all : Option Expression
  pub read : AreAssumptions decls before all
  pub refused : Refuses decls text fault
