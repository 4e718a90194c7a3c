-- The rules of a whole page.
use Rattle.std.specs.Prelude.{◌≡◌, ℕ, ◌+◌, ◌-◌, ◌*◌, ◌<◌, nat_lt, List, length, take, position, true, Option, Some, None, is_some, option_and_then, ◌⊎◌, if◌then◌else◌}
use Rattle.diagram_program.specs.declared.geometry.TheConstants.{RUNGS, ROWS, COLUMNS}
use Rattle.diagram_page.specs.Lines.{part_in, last_gap}
use Rattle.diagram_page.specs.Gap.{Labels, is_named, label_in}
use Rattle.diagram_reader.specs.Gap.{GapBreaks}
use Rattle.diagram_page.specs.Picture.{line_at}
use Rattle.diagram_page.specs.Page.{Page, labels_of, form_at}
use Rattle.diagram_reader.specs.Rung.{RungBreaks}
use Rattle.diagram_page.specs.declared.form.Form.{Form}
use Rattle.diagram_page.specs.declared.form.Form.TheVariants.{Jump}
use Rattle.diagram_reader.specs.declared.grid_rule.Rule.{Rule}
use Rattle.diagram_reader.specs.declared.grid_rule.Rule.TheVariants.{Grid}
use Rattle.diagram_reader.specs.declared.grid_rule.GridRule.TheVariants as rule

-- The rule is broken on this line, in the part of the rung k: in its gap, since it is one rung too many, or in the rung.
unfoldable pub PartBreaks : Rule → Page → ℕ → ℕ → Type 0
PartBreaks r page k line =
    ((n : ℕ) × (line ≡ (part_in page.parts k).from + n) × (n < (part_in page.parts k).start - (part_in page.parts k).from)
    × GapBreaks r page.lines (part_in page.parts k).from page.unclosed (labels_of page.lines (take k page.parts)) n)
    ⊎ (((r ≡ Grid rule.TooManyRungs) × (line ≡ (part_in page.parts k).start) × (k ≡ RUNGS))
    ⊎ ((k < RUNGS) × (n : ℕ) × (line ≡ (part_in page.parts k).start + n) × RungBreaks r page k n))

-- The rule is broken on this line of the gap after the last rung: as in another gap, or by a label, for it has no rung.
unfoldable pub EndBreaks : Rule → Page → ℕ → Type 0
EndBreaks r page line =
    (n : ℕ) × (line ≡ last_gap page.parts + n) × (n < length page.lines - last_gap page.parts)
    × (GapBreaks r page.lines (last_gap page.parts) page.unclosed (labels_of page.lines page.parts) n
    ⊎ ((r ≡ Grid rule.LabelFault) × (is_some (label_in (line_at page.lines (last_gap page.parts + n))) ≡ true)))

-- The rung that a cell of the rung k leads to by a label: the one that has it, where it comes after the rung k.
abbrev pub target_of : Labels → ℕ → Option Form → Option ℕ
target_of labels k (Some (Jump label)) = option_and_then (λ t. if nat_lt k t then Some t else None) (position (is_named label) labels)
target_of labels k form = None

-- G13, of jumps: one on this line of the rung k leads to no later rung.
abbrev pub TargetBreaks : Page → ℕ → ℕ → Type 0
TargetBreaks page k line =
    (r c : ℕ) × (label : List ℕ) × (r < ROWS) × (c < COLUMNS) × (line ≡ (part_in page.parts k).start + (2 * r + 1))
    × (form_at page k r c ≡ Some (Jump label)) × (target_of (labels_of page.lines page.parts) k (form_at page k r c) ≡ None)

-- The rule is broken on this line of the page. A fault of a gap line goes with the rung that would follow.
abbrev pub PageBreaks : Rule → Page → ℕ → ℕ → Type 0
PageBreaks r page rung line =
    ((rung < length page.parts) × PartBreaks r page rung line)
    ⊎ (((rung ≡ length page.parts) × EndBreaks r page line)
    ⊎ ((r ≡ Grid rule.LabelFault) × (rung < length page.parts) × TargetBreaks page rung line))
