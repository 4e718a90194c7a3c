use Rattle.network_power.specs.Network.{left_of}
use Rattle.network_routes.proofs.Within.{among_first, among_second}
use Rattle.network_routes.proofs.routes.is_fed.Goals as goal

pub returns-then-is_linked : goal.returns-then-is_linked
returns-then-is_linked c = λ among.
    rw c.in-Call.is (among_first _ _ (left_of c.args.net c.in-Call.second) (c.is_linked.ensures among))

pub returns-else-is_linked : goal.returns-else-is_linked
returns-else-is_linked c = λ among.
    rw c.in-Call.is (among_second _ (left_of c.args.net c.in-Call.first) _ (c.is_linked-else-is_linked.ensures among))
