use Rattle.std.proofs.Common.{◌↔◌, length}
use Rattle.clp_meaning.specs.Carried.{AreInstances}
use Rattle.clp_meaning.proofs.check.are_instances.Given as goal

abbrev pub invariant-loop-blocks : goal.invariant-loop-blocks
invariant-loop-blocks l = AreInstances l.project l.blocks l.instances ↔ AreInstances l.project l.initial.blocks l.initial.instances

abbrev pub decreases-loop-blocks : goal.decreases-loop-blocks
decreases-loop-blocks l = length l.blocks
