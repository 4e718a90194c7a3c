use Rattle.std.proofs.Common.{length}
use Rattle.network_routes.proofs.lists.+is_among.Given as goal

abbrev pub decreases-is_among : goal.decreases-is_among
decreases-is_among l = length l.ids.now
