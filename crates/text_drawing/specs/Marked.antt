-- The drawing as text: the lines of the text, those of rungs with their marks. Rungs, lines and parts are counted from 0.
use Rattle.std.specs.Prelude.{ℕ, ◌-◌, Bool, ◌&&◌, nat_le, nat_lt, codes, position, Option, Some, None, List, ◌++◌}
use Rattle.diagram_page.specs.Picture.{Lines, line_at}
use Rattle.diagram_page.specs.Lines.{part_in}
use Rattle.diagram_page.specs.declared.lines.Part.{Part}
use Rattle.scan_cycle.specs.declared.seen.Mark.{Mark}
use Rattle.text_power.specs.Show.{shown_line}

-- The line n is one of the rung.
abbrev pub is_line_of : ℕ → Part → Bool
is_line_of n p = nat_le p.start n && nat_lt n p.end

-- A line of a text with its marks, where it is a line of a rung; k is the number of that rung.
abbrev pub shown_in : List Part → List Mark → Lines → ℕ → Option ℕ → List ℕ
shown_in parts marks lines n None = line_at lines n
shown_in parts marks lines n (Some k) = shown_line marks k (n - (part_in parts k).start) (line_at lines n)

-- the same with its end
abbrev pub shown_whole : List Part → List Mark → Lines → ℕ → List ℕ
shown_whole parts marks lines n = shown_in parts marks lines n (position (is_line_of n) parts) ++ codes "\n"
