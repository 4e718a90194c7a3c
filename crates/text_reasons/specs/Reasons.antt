-- Why a text is no program, for its author: the sentence of the rule that is broken, and the lines of the text where it shows.
use Rattle.std.specs.Prelude.{◌++◌, ◌-◌, ◌+◌, ◌*◌, ◌≤◌, ◌==◌, ◌||◌, ℕ, zero, suc, List, [], Bool, true, false, nat_le, nat_lt, codes, decimal, if◌then◌else◌, length, map, Option, Some, None, option_map, replicate, slice_get, take}
use Rattle.std.specs.List.{slice_split}
use Rattle.std.specs.Option.{option_map_or}
use Rattle.diagram_reader.specs.declared.fault.GridFault.{GridFault}
use Rattle.diagram_reader.specs.declared.fault.GridFault.TheVariants.{Grid, Vars}
use Rattle.diagram_program.specs.Bytes.{line_feed, space}
use Rattle.diagram_reader.specs.declared.grid_rule.GridRule.{GridRule}
use Rattle.diagram_reader.specs.declared.grid_rule.GridRule.TheVariants as rule
use Rattle.diagram_program.specs.declared.geometry.TheConstants.{CELL, PITCH}
use Rattle.text_reasons.specs.declared.quote.Marks.{Marks}
use Rattle.text_reasons.specs.declared.quote.TheConstants.{DIGITS, WIDEST, WIDTH}
use Rattle.diagram_declarations.specs.declared.fault.VarRule.{VarRule}
use Rattle.diagram_declarations.specs.declared.fault.VarRule.TheVariants as var
use Rattle.text_reasons.specs.Advice.{advice, start_of}
use Rattle.text_reasons.specs.Bytes.{bad_in, place_in}
use Rattle.text_reasons.specs.Sentences.{grid_sentence, var_sentence}

-- A byte as it is quoted: what moves a terminal's cursor or changes its colours is a question mark.
abbrev pub quoted_byte : ℕ → ℕ
quoted_byte b = if nat_lt b space || b == 127 then 63 else b

-- A number as wide as DIGITS, or wider.
abbrev pub padded : ℕ → List ℕ
padded n = replicate (DIGITS - length (decimal n)) space ++ decimal n

-- The number of a line, with a mark in front of it where it is the line where the fault shows.
abbrev pub numbered : Bool → ℕ → List ℕ
numbered is_it number = (if is_it then codes "> " else codes "  ") ++ (padded number ++ codes " | ")

-- A line with its number, its first WIDTH bytes.
abbrev pub quoted : Bool → ℕ → List ℕ → List ℕ
quoted is_it number line = numbered is_it number ++ (map quoted_byte (take WIDTH line) ++ codes "\n")

-- The line of a text with this number, from 1, where there is one: lines are what stands between the line feeds.
abbrev pub quote : List ℕ → Bool → ℕ → List ℕ
quote text is_it zero = []
quote text is_it (suc n) = option_map_or (quoted is_it (suc n)) (slice_get (slice_split (λ b. b == line_feed) text) n) []

-- The line where a fault shows, with what stands under it, between the one before it and the one behind it; out of memory shows on line 0,
-- which is none.
abbrev pub near : List ℕ → ℕ → List ℕ → List ℕ
near text line under = if line == 0 then [] else quote text false (line - 1) ++ (quote text true line ++ (under ++ quote text false (line + 1)))

-- The columns of a drawing over its lines: a bar where a rail or a joint stands, and between them the column's number.
abbrev pub ruler : List ℕ
ruler = codes "        | |     1     |     2     |     3     |     4     |     5     |     6     |     7     |     8     |     9     |    10     |\n"

-- the mark under what breaks a rule
abbrev pub caret : ℕ
caret = 94

-- a line of marks, as far in as the lines of a drawing
abbrev pub marks_text : Option Marks → List ℕ
marks_text None = []
marks_text (Some m) = codes "        | " ++ (replicate m.indent space ++ (replicate m.count caret ++ codes "\n"))

-- They stand under characters of a drawing.
abbrev pub MayStand : Marks → Type 0
MayStand m = (m.indent ≤ WIDEST) × (m.count ≤ CELL)

-- The marks under what breaks a rule in a column: one under the joint on its left, for a rule of what stands between two cells, or one under
-- each character of its cell.
abbrev pub marks_in : GridRule → ℕ → Marks
marks_in rule.BadJoint column = record { indent = PITCH * column; count = 1 }
marks_in rule.BrokenVertical column = record { indent = PITCH * column; count = 1 }
marks_in other column = record { indent = PITCH * column + 1; count = CELL }

-- The mark under the byte that may stand in comments only, if it is within the width of a drawing.
abbrev pub byte_marks : List ℕ → Option (List ℕ) → Option Marks
byte_marks start None = None
byte_marks start (Some at) = if nat_le (place_in start at) WIDEST then Some (record { indent = place_in start at; count = 1 }) else None

abbrev pub var_marks : VarRule → List ℕ → ℕ → Option Marks
var_marks var.BadByte text line = byte_marks (start_of text line).1 (bad_in (start_of text line))
var_marks other text line = None

-- The sentence of a fault, and the lines where it shows, with marks under the column where it is known.
abbrev pub shown_text : List ℕ → GridFault → Option ℕ → List ℕ
shown_text text (Vars f) column = (var_sentence f.rule ++ codes "\n") ++ near text f.line (marks_text (var_marks f.rule text f.line))
shown_text text (Grid r rung line) column =
    (grid_sentence r ++ codes "\n") ++ (ruler ++ near text line (marks_text (option_map (marks_in r) column)))

-- What is told of a fault: this, and what is to be changed.
abbrev pub reason_text : List ℕ → GridFault → Option ℕ → List ℕ
reason_text text f column = shown_text text f column ++ advice text f column
