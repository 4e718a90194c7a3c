-- A line of a rung with the power flow of a scan: the line itself, in which the characters of what has power or is ON are replaced.
-- Rungs, rows, columns, lines and places are counted from 0.
use Rattle.std.specs.Prelude.{◌≡◌, ◌<◌, ℕ, ◌+◌, ◌*◌, ◌/◌, ◌%◌, Bool, not, ◌&&◌, ◌||◌, ◌==◌, nat_le, if◌then◌else◌, List, [], ◌∷◌, ◌++◌, length, slice_index_or, slice_range, zero, suc}
use Rattle.std.specs.List.{list_all}
use Rattle.diagram_program.specs.declared.geometry.TheConstants.{PITCH, RAIL}
use Rattle.diagram_program.specs.Bytes.{space, dash, plus, bar}
use Rattle.scan_cycle.specs.declared.seen.Mark.{Mark}
use Rattle.scan_cycle.specs.Cells.{place_at}
use Rattle.scan_cycle.specs.Seen.{mark_at}

-- the texts of the numbers below n, one after the other
unfoldable pub each : (ℕ → List ℕ) → ℕ → List ℕ
each f zero = []
each f (suc n) = each f n ++ f n

-- ---- one character

-- what is seen at a place
abbrev pub mark_in : List Mark → ℕ → ℕ → ℕ → Mark
mark_in marks rung row column = mark_at marks rung (place_at row column)

-- A dash: `=` (61) where it has power, and `.` (46) in a rung that was passed over.
abbrev pub wire_char : Bool → Bool → ℕ
wire_char evaluated power = if evaluated then (if power then 61 else dash) else 46

-- A character at a joint's place, by what is seen at the cell on its right: a `+` with power is `#` (35), a vertical link `!` (33).
abbrev pub joint_char : Mark → ℕ → ℕ
joint_char m b =
    if b == dash then wire_char m.evaluated m.left
    else (if not m.left then b else (if b == plus then 35 else (if b == bar then 33 else b)))

-- A character of a cell; front: only dashes come before it. Dashes in front have the power of the left link, those behind the symbol
-- what the cell lets through. The symbol of what is on has brackets: `[` (91) and `]` (93) for bars, and `{` (123) and `}` (125) for
-- `(` (40) and `)` (41).
abbrev pub cell_char : Mark → Bool → ℕ → ℕ
cell_char m front b =
    if b == dash then wire_char m.evaluated (if front then m.left else m.right)
    else (if not m.on then b
    else (if b == bar then (if front then 91 else 93) else (if b == 40 then 123 else (if b == 41 then 125 else b))))

-- The character at a place of a line of a rung. Line 2 * r has the names of row r and the vertical links from the row above, line
-- 2 * r + 1 its joints and cells. A vertical link with power is `!` in both. The rails are left as they are, and what comes after them.
abbrev pub shown_at : List Mark → ℕ → ℕ → List ℕ → ℕ → ℕ
shown_at marks rung line text at =
    let b = slice_index_or text at space in
    let m = mark_in marks rung (line / 2) (at / PITCH) in
    if at == 0 || nat_le RAIL at then b
    else (if line % 2 == 0 then (if at % PITCH == 0 && (m.left && b == bar) then 33 else b)
    else (if at % PITCH == 0 then joint_char m b
    else cell_char m (list_all (λ c. c == dash) (slice_range text (PITCH * (at / PITCH) + 1) at)) b))

-- ---- the drawing under the marks

-- What a character of a wire line was before it was marked.
abbrev pub unmarked : ℕ → ℕ
unmarked c =
    if c == 61 || c == 46 then dash
    else (if c == 35 then plus else (if c == 33 || (c == 91 || c == 93) then bar else (if c == 123 then 40 else (if c == 125 then 41 else c))))

-- And one of a name line.
abbrev pub unlinked : ℕ → ℕ
unlinked c = if c == 33 then bar else c

abbrev pub erased : ℕ → ℕ → ℕ
erased line c = if line % 2 == 0 then unlinked c else unmarked c

-- Where a line has none of the characters that stand for marks, its marks can be erased, and what is left is the line.
abbrev pub IsErased : List Mark → ℕ → ℕ → List ℕ → Type 0
IsErased marks rung line text =
    ((at : ℕ) → at < length text → erased line (slice_index_or text at space) ≡ slice_index_or text at space)
    → (at : ℕ) → at < length text → erased line (shown_at marks rung line text at) ≡ slice_index_or text at space

-- ---- lines

-- A line of a rung with its marks.
abbrev pub shown_line : List Mark → ℕ → ℕ → List ℕ → List ℕ
shown_line marks rung line text = each (λ at. shown_at marks rung line text at ∷ []) (length text)
