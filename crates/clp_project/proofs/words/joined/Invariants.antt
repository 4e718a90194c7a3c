use Rattle.std.proofs.Common.{◌≡◌, ◌++◌, drop, false}
use Rattle.clp_project.specs.Hal.{joined}
use Rattle.clp_project.proofs.words.joined.Given as goal

abbrev pub invariant-loop-b : goal.invariant-loop-b
invariant-loop-b l = joined false l.text ≡ l.all.items ++ joined l.goes_on (drop l.b-index l.text)
