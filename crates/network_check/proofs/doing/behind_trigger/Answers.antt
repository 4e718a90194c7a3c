use Rattle.std.proofs.Common.{refl}
use Rattle.network_check.proofs.Statements.{trigger_does}
use Rattle.network_check.proofs.doing.behind_trigger.Goals as goal

pub returns-in-Trigger : goal.returns-in-Trigger
returns-in-Trigger c =
    trigger_does _ _ _ _ _ _ _ _ _ _ _ _ c.in-Trigger.is c.if-written-output.true c.if-kept-memory.true (c.if-shows.ensures refl) c.deref.ensures
