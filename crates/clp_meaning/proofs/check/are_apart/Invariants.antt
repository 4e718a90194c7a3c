use Rattle.std.proofs.Common.{◌↔◌, length}
use Rattle.clp_meaning.specs.Carried.{AreApart}
use Rattle.clp_meaning.proofs.check.are_apart.Given as goal

abbrev pub invariant-loop-blocks : goal.invariant-loop-blocks
invariant-loop-blocks l = AreApart l.blocks ↔ AreApart l.initial.blocks

abbrev pub decreases-loop-blocks : goal.decreases-loop-blocks
decreases-loop-blocks l = length l.blocks
