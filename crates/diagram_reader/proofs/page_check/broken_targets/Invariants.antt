use Rattle.std.proofs.Common.{ℕ, ◌<◌}
use Rattle.diagram_page.specs.Seen.{seen}
use Rattle.diagram_reader.specs.PageRules.{TargetBreaks}
use Rattle.diagram_reader.proofs.page_check.broken_targets.Given as goal

abbrev pub invariant-loop-rung : goal.invariant-loop-rung
invariant-loop-rung l = (k : ℕ) → k < l.rung → (line : ℕ) → TargetBreaks (seen l.page) k line → ⊥
