use Rattle.std.proofs.Common.{◌≡◌, ◌++◌, length, map}
use Rattle.clp_project.specs.Hal.{link_of, links_to}
use Rattle.clp_project.proofs.links.add_pins.Given as goal

abbrev pub invariant-loop-words : goal.invariant-loop-words
invariant-loop-words l =
    map link_of l.initial.links.items ++ links_to l.signal (map (λ w. w.now) l.initial.words) ≡ map link_of l.links.items ++ links_to l.signal (map (λ w. w.now) l.words)

abbrev pub decreases-loop-words : goal.decreases-loop-words
decreases-loop-words l = length l.words
