-- What a program says of power flow is what its picture says, and G6 leaves no cell unfed.
use Rattle.std.specs.Prelude.{◌≡◌, ℕ, ◌+◌, ◌-◌, ◌*◌, ◌<◌, ◌≤◌, ◌↔◌, min, max, Bool, true, false}
use Rattle.diagram_program.specs.declared.geometry.TheConstants.{ROWS, COLUMNS, PITCH}
use Rattle.diagram_program.specs.Bytes.{dash}
use Rattle.diagram_program.specs.declared.cell.Cell.{Cell}
use Rattle.diagram_program.specs.declared.cell.Cell.TheVariants as cell
use Rattle.diagram_page.specs.Picture.{char_at, SameGroup}
use Rattle.diagram_page.specs.Page.{Page, rung_at}
use Rattle.diagram_reader.specs.Feeding.{enters}
use Rattle.diagram_program.specs.Program.{Drawing, site_at, joined, feeds}

-- Two rows of the program are joined on the left of a column exactly where their joints are one group of the picture.
abbrev pub SameGroups : Page → Drawing → Type 0
SameGroups page d =
    (k r q c : ℕ) → k < d.rungs → r < ROWS → q < ROWS → c < COLUMNS
    → (joined d k (min r q) c (max r q - min r q) ≡ true) ↔ SameGroup (rung_at page k) c r q

-- A row feeds a cell of the program exactly where its right link enters the group of the cell's joint in the picture.
abbrev pub SameFeeding : Page → Drawing → Type 0
SameFeeding page d =
    (k r c q : ℕ) → k < d.rungs → r < ROWS → c < COLUMNS → q < ROWS
    → (feeds d k r c q ≡ true) ↔ ((1 ≤ c) × SameGroup (rung_at page k) c r q × (enters page k q c ≡ true))

-- some row feeds the cell
abbrev pub HasFeed : Drawing → ℕ → ℕ → ℕ → Type 0
HasFeed d k r c = (q : ℕ) × (q < ROWS) × (feeds d k r c q ≡ true)

-- Each cell past the first column that begins with a dash in the picture is fed.
abbrev pub FeedsDashes : Page → Drawing → Type 0
FeedsDashes page d =
    (k r c : ℕ) → k < d.rungs → r < ROWS → 1 ≤ c → c < COLUMNS
    → char_at (rung_at page k) (2 * r + 1) (PITCH * c + 1) ≡ dash → HasFeed d k r c

abbrev pub has_left_link : Cell → Bool
has_left_link cell.Empty = false
has_left_link cell.Wire = true
has_left_link (cell.Contact mode operand memory) = true
has_left_link (cell.Coil mode var memory) = true
has_left_link (cell.Block inst) = true
has_left_link (cell.Lower inst linked) = linked
has_left_link (cell.Jump target) = true
has_left_link cell.Return = true

-- Each cell of the program past the first column that has a left link is fed.
abbrev pub FeedsCells : Drawing → Type 0
FeedsCells d =
    (k r c : ℕ) → k < d.rungs → r < ROWS → 1 ≤ c → c < COLUMNS → has_left_link (site_at d k r c).cell ≡ true → HasFeed d k r c
