use Rattle.std.proofs.Common.{◌≡◌, length, map}
use Rattle.clp_project.specs.Rungs.{read_of, rungs_in}
use Rattle.clp_project.proofs.Joining.{before_rungs}
use Rattle.clp_project.proofs.rung.rungs_in.Given as goal

abbrev pub invariant-loop-lines : goal.invariant-loop-lines
invariant-loop-lines l = rungs_in (map (λ x. x.now) l.initial.lines) ≡ before_rungs (map read_of l.rungs.items) (rungs_in (map (λ x. x.now) l.lines))

abbrev pub decreases-loop-lines : goal.decreases-loop-lines
decreases-loop-lines l = length l.lines
