use Rattle.network_power.proofs.Routes.{fed_from_end}
use Rattle.network_power.proofs.following.leads_to_all.Goals as goal

pub returns-in-empty : goal.returns-in-empty
returns-in-empty c = λ found env. fed_from_end _ _ _ _ _ c.in-Some.ensures c.in-empty.len_below (c.is_end.ensures found) env
