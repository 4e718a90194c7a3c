use Rattle.std.proofs.Common.{◌≡◌, ℕ, ◌<◌, true, ◌==◌, Some, slice_get}
use Rattle.st_integers.specs.Values.{stands_for}
use Rattle.st_integers.proofs.keeping.is_chosen.Given as goal

abbrev pub invariant-loop-variable : goal.invariant-loop-variable
invariant-loop-variable l = (k : ℕ) → k < l.variable → stands_for l.values l.integer k ≡ true → slice_get l.on k ≡ Some (k == l.chosen)
