use Rattle.network_power.proofs.Routes.{first_leads}
use Rattle.network_power.proofs.leads.before_first.Goals as goal

pub returns : goal.returns
returns c =
    first_leads c.args.net c.args.ids.now c.unwired.result.now c.in_ok-left.left _ c.in-len1-up.len_at_least c.unwired.ensures c.in-len1.len_at_least
    c.in-len1.len_below c.in_ok-left.ensures
