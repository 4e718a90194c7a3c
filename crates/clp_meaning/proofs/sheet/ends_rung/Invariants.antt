use Rattle.std.proofs.Common.{ℕ, ◌<◌}
use Rattle.clp_meaning.specs.Sheets.{IsEffect, meaning_at}
use Rattle.clp_meaning.proofs.sheet.ends_rung.Given as goal

abbrev pub invariant-loop-lower : goal.invariant-loop-lower
invariant-loop-lower l = (q : ℕ) → l.row < q → q < l.lower → IsEffect (meaning_at l.reading l.elements q l.column) → ⊥
