use Rattle.std.proofs.Common.{length}
use Rattle.network_power.proofs.leads.+behind_rails.Given as goal

abbrev pub decreases-behind_rails : goal.decreases-behind_rails
decreases-behind_rails l = length l.ids.now
