use Rattle.std.proofs.Common.{refl}
use Rattle.network_check.proofs.Statements.{latch_does}
use Rattle.network_check.proofs.doing.behind_latch.Goals as goal

pub returns-then-shows : goal.returns-then-shows
returns-then-shows c = latch_does _ _ _ _ _ _ c.in_ok-condition.ensures (c.if-shows.ensures refl) _ _ (c.if-latches.ensures refl)
