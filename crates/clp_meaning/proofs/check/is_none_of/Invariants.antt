use Rattle.std.proofs.Common.{◌↔◌, length}
use Rattle.clp_meaning.specs.Carried.{IsNoneOf}
use Rattle.clp_meaning.proofs.check.is_none_of.Given as goal

abbrev pub invariant-loop-others : goal.invariant-loop-others
invariant-loop-others l = IsNoneOf l.others l.block ↔ IsNoneOf l.initial.others l.block

abbrev pub decreases-loop-others : goal.decreases-loop-others
decreases-loop-others l = length l.others
