use Rattle.std.proofs.Common.{ℕ, ◌<◌}
use Rattle.clp_meaning.specs.Sheets.{IsFed}
use Rattle.clp_meaning.proofs.power.reaches.Given as goal

abbrev pub invariant-loop-from : goal.invariant-loop-from
invariant-loop-from l = (q : ℕ) → q < l.from → IsFed l.reading l.elements l.row l.column q → ⊥
