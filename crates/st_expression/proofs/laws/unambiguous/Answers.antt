use Rattle.st_expression.specs.declared.level.Level.TheVariants.{Disjunction}
use Rattle.st_expression.proofs.Levels.{all_ends}
use Rattle.st_expression.proofs.Uniqueness.{only}
use Rattle.st_expression.proofs.laws.unambiguous.Goals as goal

pub returns : goal.returns
returns c = λ tokens r s a b one two ends other.
    let same = only Disjunction tokens r a one s b two (all_ends r ends) (all_ends s other) in (same.rest, same.alike)
