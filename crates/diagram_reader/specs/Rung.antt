-- The rules of one rung: those of its lines, and those of its places.
use Rattle.std.specs.Prelude.{◌≡◌, ℕ, ◌+◌, ◌<◌, ◌≤◌, nat_le, true, not, ◌&&◌, length, drop}
use Rattle.std.specs.List.{list_any}
use Rattle.diagram_program.specs.declared.geometry.TheConstants.{ROWS, COLUMNS, LINES, RAIL}
use Rattle.diagram_program.specs.Bytes.{space}
use Rattle.diagram_reader.specs.declared.grid_rule.Rule.{Rule}
use Rattle.diagram_reader.specs.declared.grid_rule.Rule.TheVariants.{BadByte, Unfinished, Grid}
use Rattle.diagram_reader.specs.declared.grid_rule.GridRule.TheVariants as rule
use Rattle.diagram_page.specs.Picture.{line_at, half_line, has_text}
use Rattle.diagram_page.specs.declared.picture.Half.{Half}
use Rattle.diagram_page.specs.Page.{Page, rung_at}
use Rattle.diagram_reader.specs.Rules.{BreaksAt}

-- The rule is broken on this line of the rung k. Its bytes are those from a space to a tilde (126), and a tab is none of them.
-- G1: past the right rail, which is place 120, there are spaces alone. G2: a rung has at most 12 lines.
abbrev pub RungBreaks : Rule → Page → ℕ → ℕ → Type 0
RungBreaks BadByte page k line =
    (line < length (rung_at page k)) × (list_any (λ b. not (nat_le space b && nat_le b 126)) (line_at (rung_at page k) line) ≡ true)
RungBreaks Unfinished page k line = ⊥
RungBreaks (Grid rule.TooTall) page k line = (line ≡ LINES) × (LINES < length (rung_at page k))
RungBreaks (Grid rule.TooWide) page k line = (line < length (rung_at page k)) × (has_text (drop (RAIL + 1) (line_at (rung_at page k) line)) ≡ true)
RungBreaks (Grid other) page k line = (r : ℕ) × (h : Half) × (r < ROWS) × (line ≡ half_line r h) × ((c : ℕ) × (c ≤ COLUMNS) × BreaksAt other page k r h c)

-- No rule is broken in the rung.
abbrev pub IsSoundRung : Page → ℕ → Type 0
IsSoundRung page k = (r : Rule) (line : ℕ) → RungBreaks r page k line → ⊥
