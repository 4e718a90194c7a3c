-- What is written beside the drawing: the values of the variables, and how far timers and counters are.
use Rattle.std.specs.Prelude.{ℕ, ◌+◌, ◌-◌, ◌/◌, ◌%◌, min, Bool, true, false, not, ◌&&◌, ◌||◌, ◌==◌, position, if◌then◌else◌, List, [], ◌++◌, codes, nat_lt, take, decimal, length, slice_get, slice_index_or, Option, Some, None}
use Rattle.std.specs.List.{count_by}
use Rattle.std.specs.Fmt.{signed_decimal}
use Rattle.diagram_declarations.specs.Decls.{Declared, is_input}
use Rattle.diagram_declarations.specs.declared.decls.Var.{Var}
use Rattle.diagram_declarations.specs.declared.decls.Instance.{Instance}
use Rattle.diagram_declarations.specs.declared.kind.BlockKind.TheVariants.{Ton}
use Rattle.diagram_program.specs.declared.geometry.TheConstants.{ROWS, PLACES}
use Rattle.diagram_program.specs.declared.cell.Cell.{Cell}
use Rattle.diagram_program.specs.declared.cell.Cell.TheVariants.{Block}
use Rattle.diagram_program.specs.Program.{Drawing, cell_of}
use Rattle.scan_signals.specs.declared.block.Stored.{Stored}
use Rattle.scan_signals.specs.declared.block.Stored.TheVariants.{Timer, Counter, Bistable}
use Rattle.scan_cycle.specs.declared.seen.Mark.{Mark}
use Rattle.scan_signals.specs.Blocks.{new_block}
use Rattle.scan_cycle.specs.Standing.{Standing}
use Rattle.text_power.specs.Show.{each, mark_in}
use Rattle.text_drawing.specs.Marked.{is_line_of}
use Rattle.diagram_page.specs.declared.lines.Part.{Part}
use Rattle.diagram_page.specs.Lines.{part_in}
use Rattle.diagram_page.specs.Picture.{Lines, line_at}

-- ---- blocks

-- A timer that runs: ET, which ends at PT, and PT. A counter: CV and PV. A comment of its own line.
abbrev pub stored_note : List ℕ → ℕ → ℕ → Stored → List ℕ
stored_note name preset now (Timer last true start q) =
    codes "(* " ++ (name ++ (codes ".ET " ++ (decimal (min (now - start) preset) ++ (codes " of " ++ (decimal preset ++ codes " ms *)\n")))))
stored_note name preset now (Timer last false start q) = []
stored_note name preset now (Counter last cv q) =
    codes "(* " ++ (name ++ (codes ".CV " ++ (signed_decimal cv ++ (codes " of " ++ (decimal preset ++ codes " *)\n")))))
stored_note name preset now (Bistable q) = []

abbrev pub instance_note : Standing → ℕ → Option Instance → List ℕ
instance_note after inst None = []
instance_note after inst (Some i) = stored_note i.title i.preset after.moment (slice_index_or after.held.kept.blocks inst (new_block Ton))

-- the note of a cell
abbrev pub cell_note : Drawing → Standing → Cell → List ℕ
cell_note p after (Block inst) = instance_note after inst (slice_get p.decls.instances inst)
cell_note p after other = []

-- The notes of a rung, by column and row; none where it was passed over.
abbrev pub place_note : Drawing → Standing → List Mark → ℕ → ℕ → List ℕ
place_note p after marks rung at =
    if (mark_in marks rung (at % ROWS) (at / ROWS)).evaluated then cell_note p after (cell_of p rung at) else []

abbrev pub rung_notes : Drawing → Standing → List Mark → ℕ → List ℕ
rung_notes p after marks rung = each (place_note p after marks rung) PLACES

-- ---- variables

-- an input, or a variable that is none
abbrev pub is_among : Bool → Var → Bool
is_among true v = is_input v
is_among false v = not (is_input v)

-- how many of these are declared before the variable
abbrev pub noted_before : Bool → List Var → ℕ → ℕ
noted_before inputs vars var = count_by (is_among inputs) (take var vars)

-- A value, where so many come before it: a line has eight values, and then a gap.
abbrev pub value_text : List ℕ → ℕ → List ℕ → Bool → List ℕ
value_text gap many name value =
    (if nat_lt 0 many && many % 8 == 0 then gap else codes " ") ++ (name ++ (if value then codes "=1" else codes "=0"))

-- a variable with its value, where it is one of these
abbrev pub var_note : List ℕ → Bool → Standing → ℕ → ℕ → Option Var → List ℕ
var_note gap inputs after many var None = []
var_note gap inputs after many var (Some v) =
    if is_among inputs v then value_text gap many v.title (slice_index_or after.held.values var false) else []

abbrev pub numbered_note : List ℕ → Bool → Declared → Standing → ℕ → List ℕ
numbered_note gap inputs declared after var = var_note gap inputs after (noted_before inputs declared.vars var) var (slice_get declared.vars var)

abbrev pub var_notes : List ℕ → Bool → Declared → Standing → List ℕ
var_notes gap inputs declared after = each (numbered_note gap inputs declared after) (length declared.vars)

abbrev pub moment_text : List ℕ → Standing → List ℕ
moment_text begin after = begin ++ (decimal after.moment ++ codes " ms:")

-- Above the drawing: the moment of the scan behind `begin`, its inputs with `gap` behind each eight, and what the marks mean.
abbrev pub above : List ℕ → List ℕ → Drawing → Standing → List ℕ → List ℕ
above begin gap p after meaning = moment_text begin after ++ (var_notes gap true p.decls after ++ meaning)

-- Below it: the other variables, as the scan leaves them, between `begin` and `end`.
abbrev pub below : List ℕ → List ℕ → Drawing → Standing → List ℕ → List ℕ
below begin gap p after end = begin ++ (var_notes gap false p.decls after ++ end)

-- ---- as text: comments

-- What the marks mean, after the end of the line above it.
abbrev pub legend : List ℕ
legend = codes " *)\n(* === live  [ ] closed, or Q is ON  { } ON after its rung  ... passed over *)\n"

abbrev pub head_line : Drawing → Standing → List ℕ
head_line p after = above (codes "(* at ") (codes " *)\n(* ") p after legend

-- end: that of the last comment, and what follows it
abbrev pub tail_line : Drawing → Standing → List ℕ → List ℕ
tail_line p after end = below (codes "\n(* after it:") (codes " *)\n(* ") p after end

-- ---- the whole text

-- The notes of a rung behind its last line n.
abbrev pub notes_behind : Drawing → Standing → List Part → List Mark → ℕ → Option ℕ → List ℕ
notes_behind p after parts marks n None = []
notes_behind p after parts marks n (Some k) = if n + 1 == (part_in parts k).end then rung_notes p after marks k else []

-- The rest of END_VAR's line isn't shown, nor is an empty line after the last line feed.
abbrev pub is_left_out : Lines → ℕ → Bool
is_left_out lines n = n == 0 || (n + 1 == length lines && length (line_at lines n) == 0)

-- A line of a text, drawn with its end, and what is noted behind it.
abbrev pub noted_line : (ℕ → List ℕ) → Drawing → Standing → List Part → List Mark → ℕ → List ℕ
noted_line drawn p after parts marks n = drawn n ++ notes_behind p after parts marks n (position (is_line_of n) parts)

abbrev pub kept_line : (ℕ → List ℕ) → Drawing → Standing → List Part → List Mark → Lines → ℕ → List ℕ
kept_line drawn p after parts marks lines n = if is_left_out lines n then [] else noted_line drawn p after parts marks n

abbrev pub noted_lines : (ℕ → List ℕ) → Drawing → Standing → List Part → List Mark → Lines → List ℕ
noted_lines drawn p after parts marks lines = each (kept_line drawn p after parts marks lines) (length lines)
