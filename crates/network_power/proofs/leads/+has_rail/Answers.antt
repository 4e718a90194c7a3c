use Rattle.network_power.proofs.Routes.{others_feed, rail_feeds}
use Rattle.network_power.proofs.leads.+has_rail.Goals as goal

pub returns-then-is_rail : goal.returns-then-is_rail
returns-then-is_rail t c = λ found env. rail_feeds c.args.net c.args.ids.now env c.in-len1-up.len_at_least (c.is_rail.ensures found)

pub returns-else-is_rail : goal.returns-else-is_rail
returns-else-is_rail t c = λ found env. others_feed c.args.net c.args.ids.now env c.in-len1-up.len_at_least (c.has_rail.ensures found env)
