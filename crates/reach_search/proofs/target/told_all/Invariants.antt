-- What is known of those before the number.
use Rattle.std.proofs.Common.{◌≡◌, take}
use Rattle.reach_search.specs.Visits.{told_all}
use Rattle.reach_search.proofs.target.told_all.Given as goal

abbrev pub invariant-loop-number : goal.invariant-loop-number
invariant-loop-number l = l.all ≡ told_all l.known (take l.number l.literals)
