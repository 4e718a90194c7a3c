use Rattle.std.proofs.Common.{ℕ, ◌+◌, ◌<◌, ◌≤◌, min}
use Rattle.clp_meaning.specs.Sheets.{IsLinked}
use Rattle.clp_meaning.proofs.power.are_tied.Given as goal

abbrev pub invariant-loop-upper : goal.invariant-loop-upper
invariant-loop-upper l = (k : ℕ) → min l.row l.from ≤ k → k < l.upper → IsLinked l.elements (k + 1) l.column
