-- Private: what the reader of all tokens tells.
use Rattle.std.specs.Prelude.{◌<◌, List, []}
use Rattle.st_expression.specs.declared.expression.Expression.{Expression}
use Rattle.st_expression.specs.declared.reading.TheConstants.{DEPTH}
use Rattle.st_expression.specs.declared.token.Token.{Token}
use Rattle.st_expression.specs.Grammar.{IsExpression, nesting}
use Rattle.assume_reading.specs.declared.fault.AssumptionFault.{AssumptionFault}
use Rattle.assume_reading.specs.declared.fault.AssumptionFault.TheVariants as fault

-- Why tokens are no expression to their end.
abbrev pub RefusesTokens : List Token → AssumptionFault → Type 0
RefusesTokens tokens fault.Memory = Unit {0}
RefusesTokens tokens fault.NoExpression = (e : Expression) → IsExpression tokens [] e → ⊥
RefusesTokens tokens fault.TooDeep = DEPTH < nesting tokens
RefusesTokens tokens _ = ⊥
