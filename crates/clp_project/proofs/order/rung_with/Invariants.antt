use Rattle.std.proofs.Common.{◌≡◌, ◌==◌, find, length}
use Rattle.clp_project.proofs.order.rung_with.Given as goal

abbrev pub invariant-loop-rungs : goal.invariant-loop-rungs
invariant-loop-rungs l = find (λ r. r.number == l.number) l.rungs ≡ find (λ r. r.number == l.number) l.initial.rungs

abbrev pub decreases-loop-rungs : goal.decreases-loop-rungs
decreases-loop-rungs l = length l.rungs
