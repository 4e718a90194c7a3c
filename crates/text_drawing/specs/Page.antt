-- The drawing as a page of HTML: the lines of the text with their own characters, and elements round those of what has power or is ON.
-- Rungs, rows, columns, lines and places are counted from 0.
use Rattle.std.specs.Prelude.{ℕ, ◌+◌, ◌-◌, ◌*◌, ◌/◌, ◌%◌, Bool, true, false, not, ◌&&◌, ◌||◌, ◌==◌, nat_le, codes, decimal, bytes_eq, position, Option, Some, None, if◌then◌else◌, List, [], ◌∷◌, ◌++◌, length, slice_index_or, slice_range}
use Rattle.std.specs.List.{list_all}
use Rattle.diagram_program.specs.declared.geometry.TheConstants.{PITCH, RAIL}
use Rattle.diagram_page.specs.declared.lines.Part.{Part}
use Rattle.diagram_program.specs.Bytes.{space, dash, plus, bar}
use Rattle.diagram_page.specs.Lines.{part_in}
use Rattle.diagram_page.specs.Picture.{Lines, line_at}
use Rattle.diagram_program.specs.Program.{Drawing}
use Rattle.scan_cycle.specs.declared.seen.Mark.{Mark}
use Rattle.scan_cycle.specs.Standing.{Standing}
use Rattle.text_drawing.specs.declared.look.Look.{Look}
use Rattle.text_drawing.specs.declared.look.Look.TheVariants.{Plain, Rail, Passed, Wire, Link, Joint, On}
use Rattle.text_drawing.specs.declared.page.TheConstants.{BUTTON_START, FRAMES_STYLE, PAGE_LEGEND, PAGE_OPENING, PAGE_STYLE}
use Rattle.text_drawing.specs.Notes.{above, below}
use Rattle.text_power.specs.Show.{each, mark_in}
use Rattle.text_drawing.specs.Marked.{is_line_of}

-- ---- one character

-- `&` (38), `<` (60), `>` (62) and `"` (34) have names in HTML.
abbrev pub escaped : ℕ → List ℕ
escaped b =
    if b == 38 then codes "&amp;"
    else (if b == 60 then codes "&lt;" else (if b == 62 then codes "&gt;" else (if b == 34 then codes "&quot;" else b ∷ [])))

-- An element is `b` where there is power, or something is ON, and `i` elsewhere. Its class says what the characters are: `r` a rail, `p` a
-- wire that was passed over, `w` another wire, `v` a vertical link, `j` a joint, and `s` a symbol.
abbrev pub opening : Look → List ℕ
opening Plain = []
opening Rail = codes "<i class=r>"
opening Passed = codes "<i class=p>"
opening (Wire false) = codes "<i class=w>"
opening (Wire true) = codes "<b class=w>"
opening (Link false) = codes "<i class=v>"
opening (Link true) = codes "<b class=v>"
opening (Joint false) = codes "<i class=j>"
opening (Joint true) = codes "<b class=j>"
opening On = codes "<b class=s>"

abbrev pub closing : Look → List ℕ
closing Plain = []
closing Rail = codes "</i>"
closing Passed = codes "</i>"
closing (Wire false) = codes "</i>"
closing (Wire true) = codes "</b>"
closing (Link false) = codes "</i>"
closing (Link true) = codes "</b>"
closing (Joint false) = codes "</i>"
closing (Joint true) = codes "</b>"
closing On = codes "</b>"

abbrev pub wire_look : Bool → Bool → Look
wire_look evaluated power = if evaluated then Wire power else Passed

-- The character at a place of a line of a rung. Line 2 * r has the names of row r and the vertical links from the row above, line
-- 2 * r + 1 its joints and cells. What comes after the right rail is plain. At a joint's place it looks by what is seen at the cell on its
-- right. In a cell, dashes with only dashes before them have the power of the left link, those behind the symbol what the cell lets through;
-- of a symbol that is on, all is on but the blanks behind it.
abbrev pub look_at : List Mark → ℕ → ℕ → List ℕ → ℕ → Look
look_at marks rung line text at =
    let b = slice_index_or text at space in
    let m = mark_in marks rung (line / 2) (at / PITCH) in
    if at == 0 || at == RAIL then (if b == bar then Rail else Plain)
    else (if nat_le RAIL at then Plain
    else (if at % PITCH == 0 then
    (if b == dash then wire_look m.evaluated m.left
    else (if b == plus then Joint m.left else (if b == bar then Link m.left else Plain)))
    else (if line % 2 == 0 then Plain
    else (if b == dash then
    wire_look m.evaluated (if list_all (λ c. c == dash) (slice_range text (PITCH * (at / PITCH) + 1) at) then m.left else m.right)
    else (if m.on && not (list_all (λ c. c == space) (slice_range text at (PITCH * (at / PITCH) + PITCH))) then On else Plain)))))

-- ---- lines

-- the look of the character before a place
abbrev pub before : (ℕ → Look) → ℕ → Look
before look at = if at == 0 then Plain else look (at - 1)

-- Between two characters: where the look changes, an element ends and another begins.
abbrev pub turn : Look → Look → List ℕ
turn from to = if bytes_eq (opening from) (opening to) then [] else closing from ++ opening to

-- A character behind the turn to its look.
abbrev pub drawn_place : (ℕ → Look) → List ℕ → ℕ → List ℕ
drawn_place look text at = turn (before look at) (look at) ++ escaped (slice_index_or text at space)

-- A line of a rung. The last element ends with it.
abbrev pub drawn_line : List Mark → ℕ → ℕ → List ℕ → List ℕ
drawn_line marks rung line text =
    each (drawn_place (look_at marks rung line text) text) (length text) ++ closing (before (look_at marks rung line text) (length text))

-- Another line.
abbrev pub escaped_line : List ℕ → List ℕ
escaped_line text = each (λ at. escaped (slice_index_or text at space)) (length text)

-- A line of a text; k is the number of its rung.
abbrev pub drawn_in : List Part → List Mark → Lines → ℕ → Option ℕ → List ℕ
drawn_in parts marks lines n None = escaped_line (line_at lines n)
drawn_in parts marks lines n (Some k) = drawn_line marks k (n - (part_in parts k).start) (line_at lines n)

-- the same with its end
abbrev pub drawn_whole : List Part → List Mark → Lines → ℕ → List ℕ
drawn_whole parts marks lines n = drawn_in parts marks lines n (position (is_line_of n) parts) ++ codes "\n"

-- ---- the whole page

-- What stands before the title of each page, the end of the title with the style, and what the looks mean.
unfoldable pub page_opening : List ℕ
page_opening = PAGE_OPENING.now

unfoldable pub page_style : List ℕ
page_style = PAGE_STYLE.now

unfoldable pub page_legend : List ℕ
page_legend = PAGE_LEGEND.now

-- A page begins with its title and the style of any page.
abbrev pub page_begun : List ℕ → List ℕ
page_begun title = page_opening ++ (escaped_line title ++ page_style)

-- What begins a page of one picture.
unfoldable pub page_start : List ℕ
page_start = page_begun (codes "Ladder diagram") ++ codes "</style>\n<pre>\n"

-- Above the drawing: the moment of the scan and its inputs, and what the looks mean. They are what the text has, without the signs of its
-- comments.
abbrev pub page_above : Drawing → Standing → List ℕ
page_above p after = above (codes "At ") (codes "\n    ") p after page_legend

-- Below it: the other variables.
abbrev pub page_below : Drawing → Standing → List ℕ → List ℕ
page_below p after end = below (codes "\nAfter it:") (codes "\n    ") p after end

abbrev pub page_head : Drawing → Standing → List ℕ
page_head p after = page_start ++ page_above p after

abbrev pub page_tail : Drawing → Standing → List ℕ
page_tail p after = page_below p after (codes "\n</pre>\n</html>\n")

-- ---- a page of many pictures

-- It has a row of buttons, of which one is chosen, and shows the picture behind it.
unfoldable pub frames_style : List ℕ
frames_style = FRAMES_STYLE.now

-- Above the buttons its title stands again.
abbrev pub heading : List ℕ → List ℕ
heading title = codes "<h1>" ++ (escaped_line title ++ codes "</h1>\n")

abbrev pub frames_start : List ℕ → List ℕ
frames_start title = page_begun title ++ (frames_style ++ heading title)

-- what begins a button, up to its words
unfoldable pub button_start : List ℕ
button_start = BUTTON_START.now

-- On a picture's button stands the moment of its scan.
abbrev pub button : Standing → List ℕ
button after = button_start ++ (decimal after.moment ++ codes " ms</label>\n<pre>\n")

abbrev pub frame_head : Drawing → Standing → List ℕ
frame_head p after = button after ++ page_above p after

abbrev pub frame_tail : Drawing → Standing → List ℕ
frame_tail p after = page_below p after (codes "\n</pre>\n")
