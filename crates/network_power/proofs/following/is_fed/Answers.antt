use Rattle.st_expression.specs.Value.{value}
use Rattle.network_power.proofs.Routes.{fed_as}
use Rattle.network_power.proofs.following.is_fed.Goals as goal

pub returns-in_default-ids : goal.returns-in_default-ids
returns-in_default-ids c = λ found env.
    fed_as c.args.network c.in-Some.ids.now c.unwired.result.now _ (λ other. value other c.args.expression.now) c.in-Some.ensures c.unwired.ensures env
    (c.leads_to_all.ensures found env)
