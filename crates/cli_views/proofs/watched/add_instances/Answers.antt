use Rattle.cli_views.proofs.Growing.{one_instance}
use Rattle.cli_views.proofs.watched.add_instances.Goals as goal

pub loop-inst-preserved : goal.loop-inst-preserved
loop-inst-preserved c = rw c.in-Ok.ensures.items (one_instance c.args.watched.now.items c.loop-inst.watched.items c.loop-inst.inst c.loop-inst.invariant)
