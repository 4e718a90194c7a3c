use Rattle.network_routes.proofs.routes.+leads.Given as goal

abbrev pub decreases-leads : goal.decreases-leads
decreases-leads l = l.most
