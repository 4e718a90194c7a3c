use Rattle.std.proofs.Common.{◌≡◌, ℕ, ◌<◌, ◌≤◌, map, take}
use Rattle.diagram_program.specs.declared.geometry.TheConstants.{RUNGS}
use Rattle.diagram_page.specs.Page.{labels_of}
use Rattle.diagram_page.specs.Seen.{seen}
use Rattle.diagram_reader.specs.PageRules.{PartBreaks}
use Rattle.diagram_reader.specs.declared.grid_rule.Rule.{Rule}
use Rattle.diagram_reader.proofs.page_check.read_parts.Given as goal

abbrev pub invariant-loop-rung : goal.invariant-loop-rung
invariant-loop-rung l = record {
  labels : l.labels.items ≡ labels_of (map (λ x. x.now) l.page.lines.now) (take l.rung l.page.parts.now);
  kept : (k : ℕ) → k < l.rung → (r : Rule) (line : ℕ) → PartBreaks r (seen l.page) k line → ⊥;
  few : l.rung ≤ RUNGS;
}
