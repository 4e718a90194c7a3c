use Rattle.std.proofs.Common.{refl}
use Rattle.network_check.proofs.Statements.{call_does}
use Rattle.network_check.proofs.doing.behind_call.Goals as goal

pub returns-in-Call : goal.returns-in-Call
returns-in-Call c =
    call_does _ _ _ _ _ _ _ _ _ _ _ c.in-Call.is c.if-called-instance.true (c.if-shows.ensures refl) (c.if-shows-2.ensures refl) c.deref.ensures
