-- What is said last of a fault of a program text: what is to be changed, by what the text has there.
use Rattle.std.specs.Prelude.{◌-◌, ◌*◌, ℕ, Bool, List, [], nat_lt, Option, Some, None, if◌then◌else◌, length}
use Rattle.diagram_declarations.specs.declared.fault.VarRule.{VarRule}
use Rattle.diagram_declarations.specs.declared.fault.VarRule.TheVariants as var
use Rattle.diagram_program.specs.declared.geometry.TheConstants.{PITCH}
use Rattle.diagram_reader.specs.declared.fault.GridFault.{GridFault}
use Rattle.diagram_reader.specs.declared.fault.GridFault.TheVariants.{Grid, Vars}
use Rattle.diagram_reader.specs.declared.grid_rule.GridRule.{GridRule}
use Rattle.diagram_reader.specs.declared.grid_rule.GridRule.TheVariants as rule
use Rattle.text_reasons.specs.Blocks.{block_text, cell_in}
use Rattle.text_reasons.specs.Bytes.{bad_in, bad_text}
use Rattle.text_reasons.specs.Forms.{nearest_text}
use Rattle.text_reasons.specs.Joints.{joint_text, line_in, link_text}
use Rattle.text_reasons.specs.Names.{name_text}
use Rattle.text_reasons.specs.Outside.{behind_lines, is_code}
use Rattle.text_reasons.specs.declared.outside.Within.{Within}
use Rattle.text_reasons.specs.declared.outside.Within.TheVariants as within

-- what the first byte of a line belongs to, and the text from there on; lines are counted from 1
abbrev pub start_of : List ℕ → ℕ → Within × List ℕ
start_of text line = behind_lines within.Code text (line - 1)

abbrev pub begins_in_code : List ℕ → ℕ → Bool
begins_in_code text line = is_code (start_of text line).0

-- V1 and V3. A name is looked for only where the line begins in no comment.
abbrev pub var_advice : VarRule → List ℕ → ℕ → List ℕ
var_advice var.BadByte text line = bad_text (start_of text line).1 (bad_in (start_of text line))
var_advice var.BadName text line = if begins_in_code text line then name_text (line_in text line) else []
var_advice other text line = []

-- G3, G4, G5 and G11, on the line and in the column where they show.
abbrev pub grid_advice : GridRule → List ℕ → ℕ → ℕ → List ℕ
grid_advice rule.BadCell text line column = nearest_text (cell_in (line_in text line) column)
grid_advice rule.BadJoint text line column = joint_text (line_in text line) (PITCH * column)
grid_advice rule.BrokenVertical text line column = link_text text line (PITCH * column)
grid_advice rule.BlockShape text line column = block_text (cell_in (line_in text line) column) line column
grid_advice other text line column = []

-- Of a rule of the drawing something is said where its column is known. A text has at most one line more than it has bytes.
abbrev pub advice : List ℕ → GridFault → Option ℕ → List ℕ
advice text (Vars f) column = var_advice f.rule text f.line
advice text (Grid r rung line) None = []
advice text (Grid r rung line) (Some column) = if nat_lt (length text) line then [] else grid_advice r text line column
