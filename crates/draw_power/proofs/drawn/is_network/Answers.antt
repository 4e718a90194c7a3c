use Rattle.std.proofs.Common.{refl}
use Rattle.draw_power.proofs.Flow.{drawn}
use Rattle.draw_power.proofs.drawn.is_network.Goals as goal

pub returns-then-leads : goal.returns-then-leads
returns-then-leads c = λ yes. drawn _ _ _ _ _ refl c.in-Some.ensures (c.leads.ensures yes)

pub returns-else-leads : goal.returns-else-leads
returns-else-leads c = λ yes. drawn _ _ _ _ _ refl c.in-Some.ensures (c.leads-else-leads.ensures yes)
