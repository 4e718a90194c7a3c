-- Private: power from column to column of a rung.
use Rattle.std.specs.Prelude.{◌≡◌, ℕ, zero, suc, ◌+◌, ◌<◌, ◌==◌, Bool, true, false, not, ◌&&◌, ◌||◌, if◌then◌else◌, List, slice_index_or}
use Rattle.diagram_program.specs.declared.geometry.TheConstants.{ROWS}
use Rattle.diagram_program.specs.declared.cell.Cell.{Cell}
use Rattle.diagram_program.specs.Program.{Drawing, is_block}
use Rattle.scan_signals.specs.Truth.{plain}
use Rattle.scan_cycle.specs.Cells.{Frame, Kept, closed, place_at}
use Rattle.scan_cycle.specs.Gating.{join_where, own}
use Rattle.scan_cycle.specs.Programs.{diagram_of}
use Rattle.scan_cycle.specs.Routes.{left_link}
use Rattle.scan_cycle.specs.Rung.{circuit, link, lower}
use Rattle.st_expression.specs.declared.expression.Operand.{Operand}
use Rattle.st_statements.specs.Run.{seen}
use Rattle.draw_power.specs.declared.ends.Ends.{Ends}
use Rattle.draw_power.specs.declared.network.Network.{Network}
use Rattle.draw_power.specs.Helpers.{AreHelpers}

-- the left link of the cell at a row and a column
abbrev pub left : Drawing → ℕ → Kept → ℕ → Frame Bool → (row column : ℕ) → Bool
left p j k now f row column = left_link plain (circuit plain (diagram_of p) k now j f) row column

-- What is on the right of a cell: its left link, as far as it is closed, and of a block its output.
unfoldable pub right : Drawing → ℕ → Kept → ℕ → Frame Bool → (column row : ℕ) → Bool
right p j k now f column row =
    own plain (diagram_of p) k now f ((diagram_of p).cell j (place_at row column)) (left p j k now f row column)
    (lower plain ((diagram_of p).linked j (place_at row column)) (left p j k now f (row + 1) column))

-- Whether a row is in a set of rows.
abbrev pub has_row : List Bool → ℕ → Bool
has_row rows row = slice_index_or rows row false

-- Power on the right of one of these rows, just before a column; before the first one there is the rail.
unfoldable pub power : Drawing → ℕ → Kept → ℕ → Frame Bool → (column : ℕ) (rows : List Bool) → Bool
power p j k now f zero rows = true
power p j k now f (suc column) rows = join_where plain (has_row rows) (right p j k now f column) ROWS

abbrev pub power_at : Network → Kept → ℕ → Frame Bool → Ends → Bool
power_at net k now f ends = power net.program.now net.rung k now f ends.column ends.rows

-- Just the power of these rows comes to the left of a cell.
pub record IsFed (net : Network) (row : ℕ) (from : Ends) : Type 0 where
  pub fed : (k : Kept) (now : ℕ) (f : Frame Bool) → left net.program.now net.rung k now f row from.column ≡ power_at net k now f from

-- The cell is no block, and closed where a condition holds, whatever its memory has.
pub record IsClosedWhere (through : Frame Bool → Bool) (c : Cell) : Type 0 where
  pub no_block : is_block c ≡ false
  pub closed_is : (memory : Bool) (f : Frame Bool) → closed plain f memory c ≡ through f

-- The operand is `on`.
abbrev pub is_seen : Bool → Operand → Frame Bool → Bool
is_seen on x f = if on then seen f x else not (seen f x)

-- The end is just behind the cell of a row.
pub record IsBehind (row : ℕ) (from to : Ends) : Type 0 where
  pub next : to.column ≡ from.column + 1
  pub only : (q : ℕ) → q < ROWS → has_row to.rows q ≡ (q == row)

-- From these rows to those, power comes through where a condition holds, if the helpers have the values of their parts.
pub record Carries (net : Network) (from to : Ends) (through : Frame Bool → Bool) : Type 0 where
  pub carried : (k : Kept) (now : ℕ) (f : Frame Bool) → AreHelpers net.helpers.now f
      → power_at net k now f to ≡ (power_at net k now f from && through f)

-- Power is on the last rows where it is on one of the first or on one of the second, if the helpers have the values of their parts.
pub record Joins (net : Network) (first second to : Ends) : Type 0 where
  pub joined : (k : Kept) (now : ℕ) (f : Frame Bool) → AreHelpers net.helpers.now f
      → power_at net k now f to ≡ (power_at net k now f first || power_at net k now f second)

-- The left link of a place is the power of these rows, if the helpers have the values of their parts.
pub record Leads (net : Network) (from : Ends) (place : ℕ) : Type 0 where
  pub led : (k : Kept) (now : ℕ) (f : Frame Bool) → AreHelpers net.helpers.now f
      → link plain (diagram_of net.program.now) k now net.rung f place ≡ power_at net k now f from
