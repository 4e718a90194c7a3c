use Rattle.std.proofs.Common.{◌↔◌, All, length}
use Rattle.clp_meaning.specs.Carried.{IsUnseen}
use Rattle.clp_meaning.proofs.check.are_unseen.Given as goal

abbrev pub invariant-loop-elements : goal.invariant-loop-elements
invariant-loop-elements l = All (IsUnseen l.expressions) l.elements ↔ All (IsUnseen l.expressions) l.initial.elements

abbrev pub decreases-loop-elements : goal.decreases-loop-elements
decreases-loop-elements l = length l.elements
