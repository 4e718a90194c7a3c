use Rattle.std.proofs.Common.{refl}
use Rattle.network_power.proofs.Routes.{rail_leads}
use Rattle.network_power.proofs.leads.before_rails.Goals as goal

pub returns-in-len1-up : goal.returns-in-len1-up
returns-in-len1-up c = rail_leads c.args.net c.args.ids.now _ c.in-len1-up.len_at_least (c.if-is_rail.ensures refl)
