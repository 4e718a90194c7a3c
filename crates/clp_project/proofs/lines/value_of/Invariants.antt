use Rattle.std.proofs.Common.{◌≡◌, length, map}
use Rattle.clp_project.specs.Format.{value_of}
use Rattle.clp_project.proofs.lines.value_of.Given as goal

abbrev pub invariant-loop-lines : goal.invariant-loop-lines
invariant-loop-lines l = value_of l.key (map (λ x. x.now) l.lines) ≡ value_of l.key (map (λ x. x.now) l.initial.lines)

abbrev pub decreases-loop-lines : goal.decreases-loop-lines
decreases-loop-lines l = length l.lines
