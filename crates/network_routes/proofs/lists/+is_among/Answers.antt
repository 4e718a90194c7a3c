use Rattle.network_routes.proofs.Within.{others_in}
use Rattle.network_routes.proofs.lists.+is_among.Goals as goal

pub returns-else-first-id : goal.returns-else-first-id
returns-else-first-id t c = λ among. others_in c.args.ids.now c.args.id c.in-len1-up.len_at_least (c.is_among.ensures among)
