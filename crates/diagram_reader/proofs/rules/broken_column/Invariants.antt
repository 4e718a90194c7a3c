use Rattle.std.proofs.Common.{ℕ, ◌<◌}
use Rattle.diagram_reader.specs.Rules.{BreaksAt}
use Rattle.diagram_page.specs.Seen.{seen}
use Rattle.diagram_reader.proofs.rules.broken_column.Given as goal

abbrev pub invariant-loop-column : goal.invariant-loop-column
invariant-loop-column l = (c : ℕ) → c < l.column → BreaksAt l.rule (seen l.page) l.rung l.row l.half c → ⊥
