use Rattle.std.proofs.Common.{ℕ, ◌<◌}
use Rattle.diagram_reader.specs.Checks.{IsBrokenAlong}
use Rattle.diagram_page.specs.Seen.{seen}
use Rattle.diagram_page.specs.declared.picture.Half.{Half}
use Rattle.diagram_reader.proofs.rules.broken_line.Given as goal

abbrev pub invariant-loop-row : goal.invariant-loop-row
invariant-loop-row l = (r : ℕ) → r < l.row → (h : Half) → IsBrokenAlong l.rule (seen l.page) l.rung r h → ⊥
