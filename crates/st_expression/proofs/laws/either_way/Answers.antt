use Rattle.st_expression.proofs.Chains.{either_way}
use Rattle.st_expression.proofs.laws.either_way.Goals as goal

pub returns : goal.returns
returns c = either_way
