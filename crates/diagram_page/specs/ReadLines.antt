-- Private: how the reader goes through the lines, byte by byte and line by line.
use Rattle.std.specs.Prelude.{ℕ, ◌+◌, Bool, true, false, not, ◌&&◌, ◌||◌, ◌==◌, List, [], ◌∷◌, length, replicate, min, Option, Some, None, if◌then◌else◌, ◌<◌, ◌≤◌}
use Rattle.std.specs.List.{slice_split}
use Rattle.diagram_declarations.specs.Text.{begins, begins_with}
use Rattle.diagram_declarations.specs.Decls.{Declared}
use Rattle.diagram_program.specs.declared.geometry.TheConstants.{RUNGS}
use Rattle.diagram_program.specs.Bytes.{space, line_feed, is_upright}
use Rattle.diagram_page.specs.Picture.{Lines}
use Rattle.diagram_page.specs.Texts.{cell_text}
use Rattle.diagram_page.specs.Lines.{part_in, rung_of}
use Rattle.diagram_page.specs.Page.{Page}
use Rattle.diagram_page.specs.ReadForm.{form_at}
use Rattle.diagram_program.specs.AllPlaces.{all_places}
use Rattle.diagram_page.specs.declared.form.Form.{Form}
use Rattle.diagram_page.specs.declared.lines.Part.{Part}
use Rattle.diagram_page.specs.declared.lines.Inside.{Inside}
use Rattle.diagram_page.specs.declared.lines.Inside.TheVariants as inside

-- What follows a byte outside comments: `(*` opens a comment (40, 42), `//` one to the end of the line (47).
abbrev pub after_plain : ℕ → List ℕ → Inside
after_plain b bs =
    if b == line_feed then inside.LineStart
    else (if b == 40 && begins_with 42 bs then inside.Opening
    else (if b == 47 && begins_with 47 bs then inside.LineComment
    else inside.Plain))

-- what the next byte is in
abbrev pub next_inside : Inside → ℕ → List ℕ → Inside
next_inside inside.LineStart b bs = if is_upright b then inside.RungLine else after_plain b bs
next_inside inside.Plain b bs = after_plain b bs
next_inside inside.RungLine b bs = if b == line_feed then inside.LineStart else inside.RungLine
next_inside inside.Opening b bs = inside.Block
next_inside inside.Block b bs = if b == 42 && begins_with 41 bs then inside.Closing else inside.Block
next_inside inside.Closing b bs = inside.Plain
next_inside inside.LineComment b bs = if b == line_feed then inside.LineStart else inside.LineComment

abbrev pub is_shown : Inside → Bool
is_shown inside.LineStart = true
is_shown inside.Plain = true
is_shown inside.RungLine = true
is_shown inside.Opening = false
is_shown inside.Block = false
is_shown inside.Closing = false
is_shown inside.LineComment = false

abbrev pub shown_byte : Inside → ℕ → List ℕ → ℕ
shown_byte i b bs =
    if b == line_feed then line_feed
    else (if b == 13 && begins_with line_feed bs then space
    else (if is_shown i && is_shown (next_inside i b bs) then b else space))

abbrev pub blanked_from : Inside → List ℕ → List ℕ
blanked_from i [] = []
blanked_from i (b ∷ bs) = shown_byte i b bs ∷ blanked_from (next_inside i b bs) bs

-- The byte stands in the same as the next one, and is shown as it is or as a space, whatever follows it. A CR (13) may end a line.
abbrev pub is_settled : Inside → ℕ → Bool
is_settled inside.LineStart b = false
is_settled inside.Plain b = not (b == line_feed || (b == 13 || (b == 40 || b == 47)))
is_settled inside.RungLine b = not (b == line_feed || b == 13)
is_settled inside.Opening b = false
is_settled inside.Block b = not (b == line_feed || b == 42)
is_settled inside.Closing b = false
is_settled inside.LineComment b = not (b == line_feed)

-- what is shown of such bytes
abbrev pub shown_run : Inside → List ℕ → List ℕ
shown_run i run = if is_shown i then run else replicate (length run) space

abbrev pub is_opening : Inside → Bool
is_opening inside.LineStart = false
is_opening inside.Plain = false
is_opening inside.RungLine = false
is_opening inside.Opening = true
is_opening inside.Block = false
is_opening inside.Closing = false
is_opening inside.LineComment = false

abbrev pub is_closing : Inside → Bool
is_closing inside.LineStart = false
is_closing inside.Plain = false
is_closing inside.RungLine = false
is_closing inside.Opening = false
is_closing inside.Block = false
is_closing inside.Closing = true
is_closing inside.LineComment = false

-- line: that of the first byte; since: the line where the comment began that it is in
abbrev pub unclosed_from : Inside → ℕ → Option ℕ → List ℕ → Option ℕ
unclosed_from i line since [] = since
unclosed_from i line since (b ∷ bs) =
    unclosed_from (next_inside i b bs) (if b == line_feed then line + 1 else line)
    (if is_opening (next_inside i b bs) then Some line else (if is_closing (next_inside i b bs) then None else since)) bs

abbrev pub unclosed_line : List ℕ → Option ℕ
unclosed_line text = unclosed_from inside.Plain 0 None text

-- The lines, the rest of END_VAR's line first.
abbrev pub lines_of : List ℕ → Lines
lines_of text = slice_split (λ b. b == line_feed) (blanked_from inside.Plain text)

-- at: the line after the rung before; line: the number of the next line; run: where the rung began that goes on
abbrev pub parts_from : ℕ → ℕ → Option ℕ → Lines → List Part
parts_from at line None [] = []
parts_from at line (Some s) [] = record { from = at; start = s; end = line } ∷ []
parts_from at line None (l ∷ ls) = if begins is_upright l then parts_from at (line + 1) (Some line) ls else parts_from at (line + 1) None ls
parts_from at line (Some s) (l ∷ ls) =
    if begins is_upright l then parts_from at (line + 1) (Some s) ls
    else record { from = at; start = s; end = line } ∷ parts_from line (line + 1) None ls

-- The first line is a gap line in any case.
abbrev pub parts_of : Lines → List Part
parts_of [] = []
parts_of (l ∷ ls) = parts_from 0 1 None ls

-- the part lies within so many lines
abbrev pub IsWithin : ℕ → Part → Type 0
IsWithin size p = (p.from ≤ p.start) × (p.start < p.end) × (p.end ≤ size)

-- the form of a cell of the k-th rung
unfoldable pub form_read : Lines → List Part → ℕ → ℕ → ℕ → Option Form
form_read lines parts k r c = form_at (cell_text (rung_of lines (part_in parts k)) r c)

-- those of the first hundred rungs
unfoldable pub forms_of : Lines → List Part → List (Option Form)
forms_of lines parts = all_places (form_read lines parts) (min (length parts) RUNGS)

abbrev pub page : Declared → Lines → Option ℕ → List Part → List (Option Form) → Page
page decls lines unclosed parts forms = record { decls = decls; lines = lines; unclosed = unclosed; parts = parts; forms = forms }

-- the page with these lines
abbrev pub page_with : Declared → Lines → Option ℕ → List Part → Page
page_with decls lines unclosed parts = page decls lines unclosed parts (forms_of lines parts)

-- the page of a text
abbrev pub page_of : Declared → List ℕ → Page
page_of decls text = page_with decls (lines_of text) (unclosed_line text) (parts_of (lines_of text))
