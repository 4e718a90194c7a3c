use Rattle.std.proofs.Common.{◌≡◌, ◌++◌, length, map}
use Rattle.clp_project.specs.Hal.{link_of, links_in}
use Rattle.clp_project.proofs.links.add_lines.Given as goal

abbrev pub invariant-loop-lines : goal.invariant-loop-lines
invariant-loop-lines l =
    map link_of l.initial.links.items ++ links_in (map (λ w. w.now) l.initial.lines) ≡ map link_of l.links.items ++ links_in (map (λ w. w.now) l.lines)

abbrev pub decreases-loop-lines : goal.decreases-loop-lines
decreases-loop-lines l = length l.lines
