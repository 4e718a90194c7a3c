use Rattle.std.proofs.Common.{◌≡◌, length}
use Rattle.clp_project.specs.Order.{arranged, behind_rungs}
use Rattle.clp_project.proofs.order.arranged.Given as goal

abbrev pub invariant-loop-sections : goal.invariant-loop-sections
invariant-loop-sections l = arranged l.reading l.rungs l.initial.sections ≡ behind_rungs l.placed.items (arranged l.reading l.rungs l.sections)

abbrev pub decreases-loop-sections : goal.decreases-loop-sections
decreases-loop-sections l = length l.sections
