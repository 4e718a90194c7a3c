-- Private: parts of the rules, as the code has them in functions of their own.
use Rattle.std.specs.Prelude.{ℕ, ◌+◌, ◌-◌, ◌&&◌, ◌≡◌, ◌<◌, ◌≤◌, Bool, not, nat_le, List, drop, Option, Some, None, option_and_then, position, if◌then◌else◌, nat_lt}
use Rattle.std.specs.List.{list_any}
use Rattle.diagram_program.specs.declared.geometry.TheConstants.{ROWS, COLUMNS, RAIL}
use Rattle.diagram_page.specs.declared.lines.Part.{Part}
use Rattle.diagram_program.specs.Bytes.{space}
use Rattle.diagram_page.specs.Picture.{Lines, line_at, half_line, has_text}
use Rattle.diagram_page.specs.Gap.{Labels, is_named, label_before}
use Rattle.diagram_page.specs.declared.form.Form.{Form}
use Rattle.diagram_page.specs.declared.form.Form.TheVariants.{Jump}
use Rattle.diagram_page.specs.declared.picture.Half.{Half}
use Rattle.diagram_reader.specs.declared.grid_rule.GridRule.{GridRule}
use Rattle.diagram_page.specs.Page.{Page}
use Rattle.diagram_reader.specs.Rules.{HoldsBefore, IsDrawnAt, BreaksAt}

-- the label of a rung
abbrev pub label_of : Lines → Part → Option (List ℕ)
label_of lines p = label_before lines p.from (p.start - p.from)

abbrev pub is_dirty_at : Lines → ℕ → Bool
is_dirty_at rung line = list_any (λ b. not (nat_le space b && nat_le b 126)) (line_at rung line)

abbrev pub is_wide_at : Lines → ℕ → Bool
is_wide_at rung line = has_text (drop (RAIL + 1) (line_at rung line))

abbrev pub IsDrawnBefore : Page → ℕ → ℕ → ℕ → ℕ → Type 0
IsDrawnBefore page inst k r c = HoldsBefore (IsDrawnAt page inst) k r c

-- on a line of a row, and on a line of the rung
abbrev pub IsBrokenAlong : GridRule → Page → ℕ → ℕ → Half → Type 0
IsBrokenAlong rule page k r h = (c : ℕ) × (c ≤ COLUMNS) × BreaksAt rule page k r h c

abbrev pub IsBrokenOn : GridRule → Page → ℕ → ℕ → Type 0
IsBrokenOn rule page k line = (r : ℕ) × (h : Half) × (r < ROWS) × (line ≡ half_line r h) × IsBrokenAlong rule page k r h

-- nowhere in the rung
abbrev pub IsKept : Page → ℕ → GridRule → Type 0
IsKept page k rule = (r : ℕ) → r < ROWS → (h : Half) → IsBrokenAlong rule page k r h → ⊥

abbrev pub jump_label : Option Form → Option (List ℕ)
jump_label (Some (Jump label)) = Some label
jump_label form = None

-- the target, where it comes after the rung k
abbrev pub later : ℕ → Option ℕ → Option ℕ
later k target = option_and_then (λ t. if nat_lt k t then Some t else None) target

abbrev pub target_to : Labels → ℕ → Option (List ℕ) → Option ℕ
target_to labels k None = None
target_to labels k (Some label) = later k (position (is_named label) labels)
