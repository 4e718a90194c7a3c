use Rattle.std.proofs.Common.{◌≡◌, length, map, Some}
use Rattle.clp_project.specs.Rungs.{rows_in, joined}
use Rattle.clp_project.proofs.rung.rows_in.Given as goal

abbrev pub invariant-loop-lines : goal.invariant-loop-lines
invariant-loop-lines l = rows_in (map (λ x. x.now) l.initial.lines) ≡ joined (Some l.elements.items) (rows_in (map (λ x. x.now) l.lines))

abbrev pub decreases-loop-lines : goal.decreases-loop-lines
decreases-loop-lines l = length l.lines
