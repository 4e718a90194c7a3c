-- Power by the places where it ends: there is none as long as these let none through. Rungs, rows, columns and places are counted from 0.
use Rattle.std.specs.Prelude.{◌≡◌, ◌<◌, ℕ, Bool, true, false, not, is_none, if◌then◌else◌, List}
use Rattle.std.specs.List.{list_any}
use Rattle.diagram_program.specs.declared.geometry.TheConstants.{COLUMNS, ROWS}
use Rattle.diagram_program.specs.declared.cell.Cell.{Cell}
use Rattle.diagram_program.specs.Program.{Drawing, cell_of, is_block}
use Rattle.scan_cycle.specs.declared.seen.Mark.{Mark}
use Rattle.scan_cycle.specs.Programs.{diagram_of}
use Rattle.scan_cycle.specs.Rung.{Held}
use Rattle.scan_cycle.specs.Seen.{AreMarks, mark_at}
use Rattle.text_power.specs.Show.{mark_in}
use Rattle.text_power.specs.Why.{end_of, ends_at, is_closed, routes_to}

-- There is power at a place of a rung that is evaluated exactly where power ends nowhere on one of the routes to it.
abbrev pub PowerComesByRoutes : Drawing → Type 0
PowerComesByRoutes p =
    (now : ℕ) (inputs : List Bool) (h : Held) (marks : List Mark) → AreMarks (diagram_of p) now inputs h marks
    → (rung row column : ℕ) → rung < p.rungs → row < ROWS → column < COLUMNS → (mark_in marks rung row column).evaluated ≡ true
    → (mark_in marks rung row column).left ≡ list_any (λ r. is_none (end_of p marks rung r)) (routes_to p rung row column)

-- A cell lets no power through: a block whose Q is OFF, or a cell that is not closed, as an open contact.
abbrev pub is_cut : Mark → Cell → Bool
is_cut m cell = if is_block cell then not m.right else not (is_closed m cell)

-- As long as the places where power ends let none through, there is none: of any two scans of the program, whatever their moments, inputs
-- and states, where the first evaluates a rung and has no power at a place of it, and each place where power then ends on a route to that
-- place is cut in the other, the other has no power at the place either.
abbrev pub CutsHold : Drawing → Type 0
CutsHold p =
    (now : ℕ) (inputs : List Bool) (h : Held) (marks : List Mark) → AreMarks (diagram_of p) now inputs h marks
    → (other_now : ℕ) (other_inputs : List Bool) (other_h : Held) (others : List Mark) → AreMarks (diagram_of p) other_now other_inputs other_h others
    → (rung row column : ℕ) → rung < p.rungs → row < ROWS → column < COLUMNS
    → (mark_in marks rung row column).evaluated ≡ true → (mark_in marks rung row column).left ≡ false
    → ((n : ℕ) → ends_at p marks rung row column n ≡ true → is_cut (mark_at others rung n) (cell_of p rung n) ≡ true)
    → (mark_in others rung row column).left ≡ false
