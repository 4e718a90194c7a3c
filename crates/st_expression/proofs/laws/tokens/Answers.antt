use Rattle.st_expression.specs.declared.level.Level.TheVariants.{Disjunction}
use Rattle.st_expression.proofs.Fronts.{own_of}
use Rattle.st_expression.proofs.laws.tokens.Goals as goal

pub returns : goal.returns
returns c = λ tokens rest e is. let found = own_of Disjunction tokens rest e is in (found.own, found.whole, found.any)
