use Rattle.std.proofs.Common.{◌<◌, ℕ}
use Rattle.clp_meaning.specs.Carried.{IsTarget}
use Rattle.clp_import.proofs.holding.has_later.Given as goal

abbrev pub invariant-loop-later : goal.invariant-loop-later
invariant-loop-later l = (k : ℕ) → k < l.later → l.rung < k → IsTarget l.rungs l.section l.number k → ⊥
