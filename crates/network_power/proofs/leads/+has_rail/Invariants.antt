use Rattle.std.proofs.Common.{length}
use Rattle.network_power.proofs.leads.+has_rail.Given as goal

abbrev pub decreases-has_rail : goal.decreases-has_rail
decreases-has_rail l = length l.ids.now
