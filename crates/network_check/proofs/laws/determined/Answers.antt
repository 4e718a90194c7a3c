use Rattle.network_check.proofs.Determined.{determined}
use Rattle.network_check.proofs.laws.determined.Goals as goal

pub returns : goal.returns
returns c = determined
