use Rattle.std.proofs.Common.{◌≡◌, ◌++◌, length, map}
use Rattle.clp_project.specs.Hal.{some_words}
use Rattle.clp_project.proofs.words.some_words.Given as goal

abbrev pub invariant-loop-parts : goal.invariant-loop-parts
invariant-loop-parts l = some_words (map (λ w. w.now) l.initial.parts) ≡ map (λ w. w.now) l.words.items ++ some_words (map (λ w. w.now) l.parts)

abbrev pub decreases-loop-parts : goal.decreases-loop-parts
decreases-loop-parts l = length l.parts
