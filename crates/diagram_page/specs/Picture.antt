-- The picture of a rung: what is where, and which joints, links and groups that makes (geometry of the profile).
-- A rung is the list of its lines. Lines, places, rows and columns are counted from 0. Row r has the name line 2 * r
-- and the wire line 2 * r + 1; the cell of column c begins at place 12 * c + 1, and the joint on its left is place 12 * c.
use Rattle.std.specs.Prelude.{◌≡◌, ℕ, ◌+◌, ◌*◌, ◌<◌, ◌≤◌, min, max, Bool, true, not, ◌==◌, List, [], map, slice_index_or}
use Rattle.std.specs.List.{list_any, range_with_len}
use Rattle.diagram_program.specs.declared.geometry.TheConstants.{CELL, PITCH}
use Rattle.diagram_page.specs.declared.picture.Half.{Half}
use Rattle.diagram_page.specs.declared.picture.Half.TheVariants as half
use Rattle.diagram_program.specs.Bytes.{space, bar}

abbrev pub Lines : Type 0
Lines = List (List ℕ)

-- The line of a row that has its names, or its wires.
abbrev pub half_line : ℕ → Half → ℕ
half_line r h = elim h [ half.Name ↦ 2 * r | half.Wire ↦ 2 * r + 1 ]

-- a line, an empty one past the last, and its character at a place, a space past each end
abbrev pub line_at : Lines → ℕ → List ℕ
line_at lines line = slice_index_or lines line []

abbrev pub char_at : Lines → ℕ → ℕ → ℕ
char_at lines line place = slice_index_or (line_at lines line) place space

-- The eleven characters of a line that belong to a column: on a wire line a cell, on a name line the text over it.
unfoldable pub text_at : Lines → ℕ → ℕ → List ℕ
text_at rung line c = map (char_at rung line) (range_with_len (PITCH * c + 1) CELL)

-- There is a character that is no space.
abbrev pub has_text : List ℕ → Bool
has_text chars = list_any (λ b. not (b == space)) chars

-- The joint on the left of a cell.
abbrev pub joint : Lines → ℕ → ℕ → ℕ
joint rung r c = char_at rung (2 * r + 1) (PITCH * c)

-- A bar on the name line of the next row joins the two joints.
abbrev pub vertical : Lines → ℕ → ℕ → Bool
vertical rung r c = char_at rung (2 * r + 2) (PITCH * c) == bar

-- The joints of two rows are one group where vertical links join every row between them; each is in its own group.
abbrev pub SameGroup : Lines → ℕ → ℕ → ℕ → Type 0
SameGroup rung c r q = (k : ℕ) → min r q ≤ k → k < max r q → vertical rung k c ≡ true
