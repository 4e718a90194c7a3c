use Rattle.std.proofs.Common.{◌≡◌, length, map, Some}
use Rattle.clp_project.specs.Rungs.{elements_in, joined}
use Rattle.clp_project.proofs.element.elements_in.Given as goal

abbrev pub invariant-loop-fields : goal.invariant-loop-fields
invariant-loop-fields l = elements_in (map (λ x. x.now) l.initial.fields) ≡ joined (Some l.elements.items) (elements_in (map (λ x. x.now) l.fields))

abbrev pub decreases-loop-fields : goal.decreases-loop-fields
decreases-loop-fields l = length l.fields
