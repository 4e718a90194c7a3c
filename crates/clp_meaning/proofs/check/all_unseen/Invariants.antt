use Rattle.std.proofs.Common.{◌↔◌, All, length}
use Rattle.clp_meaning.specs.Carried.{AreUnseen}
use Rattle.clp_meaning.proofs.check.all_unseen.Given as goal

abbrev pub invariant-loop-rungs : goal.invariant-loop-rungs
invariant-loop-rungs l = All (AreUnseen l.expressions) l.rungs ↔ All (AreUnseen l.expressions) l.initial.rungs

abbrev pub decreases-loop-rungs : goal.decreases-loop-rungs
decreases-loop-rungs l = length l.rungs
