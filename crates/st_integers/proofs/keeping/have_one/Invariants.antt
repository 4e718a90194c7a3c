use Rattle.std.proofs.Common.{◌≡◌, ℕ, ◌<◌, true}
use Rattle.st_integers.specs.Values.{HasOne, stands_for}
use Rattle.st_integers.proofs.keeping.have_one.Given as goal

abbrev pub invariant-loop-variable : goal.invariant-loop-variable
invariant-loop-variable l = (k : ℕ) → k < l.variable → (integer : ℕ) → stands_for l.values integer k ≡ true → HasOne l.values l.on integer
