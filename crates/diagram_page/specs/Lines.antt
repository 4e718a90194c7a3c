-- The lines of a drawing, and which of them are rungs (the profile; comments as in IEC 61131-3).
-- The text is what follows END_VAR.
use Rattle.std.specs.Prelude.{◌≡◌, ℕ, ◌<◌, ◌≤◌, Bool, true, false, not, ◌&&◌, ◌==◌, nat_le, List, [], ◌∷◌, ◌++◌, ◌-◌, take, drop, length, map, flat_map, count_by, codes, slice_index_or, ◌⊎◌, if◌then◌else◌}
use Rattle.std.specs.List.{slice_split, list_all}
use Rattle.diagram_declarations.specs.Text.{begins, begins_comment, begins_with, closes}
use Rattle.diagram_program.specs.Bytes.{space, line_feed, is_upright}
use Rattle.diagram_page.specs.Picture.{Lines, line_at}
use Rattle.diagram_page.specs.declared.lines.Part.{Part}

-- ---- what a text is made of

-- A rung line is a line that begins outside comments with `|` or `+`; it has no comments. A comment is `(*` to the first
-- `*)`, or `//` to the end of its line; it may be left open. Every other byte, a line feed too, is a piece of its own.
pub data Piece : Type 0 where
  Plain : (byte : ℕ) → Piece
  RungLine : (line : List ℕ) → Piece
  Comment : (inside : List ℕ) → Piece
  OpenComment : (inside : List ℕ) → Piece
  LineComment : (inside : List ℕ) → Piece

abbrev pub spelling : Piece → List ℕ
spelling (Plain byte) = byte ∷ []
spelling (RungLine line) = line
spelling (Comment inside) = codes "(*" ++ (inside ++ codes "*)")
spelling (OpenComment inside) = codes "(*" ++ inside
spelling (LineComment inside) = codes "//" ++ inside

-- no line feed is in it, and a line ends where this follows
abbrev pub IsRestOfLine : List ℕ → List ℕ → Type 0
IsRestOfLine bytes after = (list_all (λ b. not (b == line_feed)) bytes ≡ true) × ((after ≡ []) ⊎ (begins_with line_feed after ≡ true))

-- The piece may stand where this follows it. start: whether a line begins with it; the rest of END_VAR's line doesn't count as one.
-- A plain byte begins neither a rung line nor a comment.
abbrev pub MayStand : Bool → Piece → List ℕ → Type 0
MayStand start (Plain byte) after = ((start && is_upright byte) ≡ false) × (begins_comment (byte ∷ after) ≡ false)
MayStand start (RungLine line) after = IsRestOfLine line after × (start ≡ true) × (begins is_upright line ≡ true)
MayStand start (Comment inside) after = closes inside ≡ false
MayStand start (OpenComment inside) after = (closes inside ≡ false) × (after ≡ [])
MayStand start (LineComment inside) after = IsRestOfLine inside after

-- The text is these pieces, from its start to its end.
abbrev pub ArePieces : Bool → List Piece → List ℕ → Type 0
ArePieces start [] text = text ≡ []
ArePieces start (p ∷ ps) text =
    (after : List ℕ) × (text ≡ spelling p ++ after) × MayStand start p after × ArePieces (elim p [ Plain byte ↦ byte == line_feed | _ ↦ false ]) ps after

-- ---- its lines

-- A comment counts as spaces, byte for byte, and its line feeds stay, so that lines keep their numbers.
abbrev pub shown : Piece → List ℕ
shown (Plain byte) = byte ∷ []
shown (RungLine line) = line
shown comment = map (λ b. if b == line_feed then line_feed else space) (spelling comment)

-- A line ends by LF or CR LF. The CR (13) counts as a space.
abbrev pub line_ends : List ℕ → List ℕ
line_ends [] = []
line_ends (b ∷ bs) = (if b == 13 && begins_with line_feed bs then space else b) ∷ line_ends bs

-- The lines, the rest of END_VAR's line first.
abbrev pub lines_in : List Piece → Lines
lines_in ps = slice_split (λ b. b == line_feed) (line_ends (flat_map shown ps))

abbrev pub line_feeds : List ℕ → ℕ
line_feeds text = count_by (λ b. b == line_feed) text

-- A comment begins on this line that never ends: it is the last piece, and so many line feeds come before it.
abbrev pub IsUnclosed : List Piece → ℕ → Type 0
IsUnclosed pieces line =
    (before : List Piece) × (inside : List ℕ) × (pieces ≡ before ++ OpenComment inside ∷ []) × (line ≡ line_feeds (flat_map spelling before))

-- ---- its rungs

abbrev pub is_rung_line : Lines → ℕ → Bool
is_rung_line lines n = nat_le 1 n && begins is_upright (line_at lines n)

-- The gap lines from `from` on, and after them a rung: a longest run of rung lines.
pub record IsRung (lines : Lines) (p : Part) : Type 0 where
  pub ordered : (p.from ≤ p.start) × (p.start < p.end)
  pub gap : (n : ℕ) → p.from ≤ n → n < p.start → is_rung_line lines n ≡ false
  pub run : (n : ℕ) → p.start ≤ n → n < p.end → is_rung_line lines n ≡ true
  pub longest : is_rung_line lines p.end ≡ false

-- From the line `at` on the rungs are these, in order, each right after its gap; after the last are gap lines alone.
abbrev pub AreRungs : Lines → ℕ → List Part → Type 0
AreRungs lines at [] = (n : ℕ) → at ≤ n → is_rung_line lines n ≡ false
AreRungs lines at (p ∷ ps) = (p.from ≡ at) × IsRung lines p × AreRungs lines p.end ps

-- the rung k, with its gap
abbrev pub part_in : List Part → ℕ → Part
part_in parts k = slice_index_or parts k (record { from = 0; start = 0; end = 0 })

-- The line after the last rung, the first one where there is none: there the last gap begins.
abbrev pub last_gap : List Part → ℕ
last_gap parts = (part_in parts (length parts - 1)).end

-- The rung of a part.
unfoldable pub rung_of : Lines → Part → Lines
rung_of lines p = take (p.end - p.start) (drop p.start lines)
