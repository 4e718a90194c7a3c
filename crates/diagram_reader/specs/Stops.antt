-- Private: what the functions that read a drawing say where they stop.
use Rattle.std.specs.Prelude.{ℕ, ◌+◌, ◌^◌, ◌<◌, ◌≤◌}
use Rattle.diagram_program.specs.declared.geometry.TheConstants.{LINES}
use Rattle.diagram_reader.specs.declared.grid_rule.Rule.{Rule}
use Rattle.diagram_reader.specs.declared.grid_rule.Stop.{Stop}
use Rattle.diagram_reader.specs.declared.grid_rule.Stop.TheVariants.{NoMemory, Broken}
use Rattle.diagram_page.specs.Page.{Page}
use Rattle.diagram_reader.specs.PageRules.{PageBreaks}

-- No rule is broken on the page.
abbrev pub IsSoundPage : Page → Type 0
IsSoundPage page = (r : Rule) (rung line : ℕ) → PageBreaks r page rung line → ⊥

-- the rule that is named is broken on the page
abbrev pub IsBrokenIn : Page → Stop → Type 0
IsBrokenIn page NoMemory = Unit {0}
IsBrokenIn page (Broken r rung line) = PageBreaks r page rung line

-- the fault lies near the drawing: at most one rung and twelve lines past its end
abbrev pub IsNear : ℕ → ℕ → Stop → Type 0
IsNear rungs lines NoMemory = Unit {0}
IsNear rungs lines (Broken r rung line) = (rung ≤ rungs) × (line < lines + LINES)

-- the rung and the line are small numbers
abbrev pub IsSmall : Stop → Type 0
IsSmall NoMemory = Unit {0}
IsSmall (Broken r rung line) = (rung < 2 ^ 62) × (line < 2 ^ 62)
