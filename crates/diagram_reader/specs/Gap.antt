-- The rules of gap lines.
use Rattle.std.specs.Prelude.{◌≡◌, ℕ, ◌+◌, ◌<◌, nat_le, Bool, true, not, ◌&&◌, ◌||◌, ◌==◌, List, Option, Some, None}
use Rattle.std.specs.List.{list_any, list_all}
use Rattle.diagram_program.specs.Bytes.{space}
use Rattle.diagram_page.specs.Picture.{Lines, line_at}
use Rattle.diagram_page.specs.Gap.{Labels, is_gap_blank, is_named, label_in, label_before}
use Rattle.diagram_reader.specs.declared.grid_rule.Rule.{Rule}
use Rattle.diagram_reader.specs.declared.grid_rule.Rule.TheVariants.{BadByte, Unfinished, Grid}
use Rattle.diagram_reader.specs.declared.grid_rule.GridRule.TheVariants as rule

-- a line that is neither blank nor a label, a second label in the gap, or one that an earlier rung has
abbrev pub bad_label : Option (List ℕ) → Labels → Option (List ℕ) → List ℕ → Bool
bad_label before labels None text = not (list_all is_gap_blank text)
bad_label None labels (Some word) text = list_any (is_named word) labels
bad_label (Some first) labels (Some word) text = true

-- The rule is broken on the n-th line of the gap that begins at `from`. unclosed: the line where a comment begins that
-- never ends; labels: those of the rungs before. Bytes are a tab (9), and those from a space to a tilde (126).
abbrev pub GapBreaks : Rule → Lines → ℕ → Option ℕ → Labels → ℕ → Type 0
GapBreaks BadByte lines from unclosed labels n = list_any (λ b. not (b == 9 || (nat_le space b && nat_le b 126))) (line_at lines (from + n)) ≡ true
GapBreaks Unfinished lines from unclosed labels n = unclosed ≡ Some (from + n)
GapBreaks (Grid rule.LabelFault) lines from unclosed labels n =
    bad_label (label_before lines from n) labels (label_in (line_at lines (from + n))) (line_at lines (from + n)) ≡ true
GapBreaks (Grid other) lines from unclosed labels n = ⊥

-- No rule is broken in the gap of n lines.
abbrev pub IsSoundGap : Lines → ℕ → Option ℕ → Labels → ℕ → Type 0
IsSoundGap lines from unclosed labels n = (k : ℕ) → k < n → (r : Rule) → GapBreaks r lines from unclosed labels k → ⊥
