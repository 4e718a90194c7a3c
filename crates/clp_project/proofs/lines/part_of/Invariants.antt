use Rattle.std.proofs.Common.{◌≡◌, length, map}
use Rattle.clp_project.specs.Format.{part_of}
use Rattle.clp_project.proofs.lines.part_of.Given as goal

abbrev pub invariant-loop-lines : goal.invariant-loop-lines
invariant-loop-lines l = part_of l.head (map (λ x. x.now) l.lines) ≡ part_of l.head (map (λ x. x.now) l.initial.lines)

abbrev pub decreases-loop-lines : goal.decreases-loop-lines
decreases-loop-lines l = length l.lines
