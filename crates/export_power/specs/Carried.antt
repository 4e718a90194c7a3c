-- Private: power from the right ends of some cells to those of others, and the values that statements see.
use Rattle.std.specs.Prelude.{◌≡◌, ℕ, ◌+◌, ◌/◌, ◌%◌, ◌<◌, ◌==◌, Bool, false, ◌&&◌, ◌||◌}
use Rattle.diagram_program.specs.declared.geometry.TheConstants.{ROWS, PLACES}
use Rattle.diagram_program.specs.declared.cell.Cell.{Cell}
use Rattle.diagram_program.specs.Program.{cell_of, is_block}
use Rattle.scan_signals.specs.Truth.{plain}
use Rattle.scan_cycle.specs.Cells.{Frame, Kept, closed, memory_of}
use Rattle.st_expression.specs.declared.expression.Operand.{Operand}
use Rattle.st_statements.specs.Run.{seen}
use Rattle.draw_power.specs.Power.{has_row, power}
use Rattle.export_power.specs.declared.ends.Ends.{Ends}
use Rattle.export_power.specs.declared.ends.Parts.{Parts}
use Rattle.export_power.specs.declared.known.Meaning.{Meaning}
use Rattle.export_power.specs.declared.network.Network.{Network}
use Rattle.export_power.specs.Sight.{Sees, meant}

-- ---- sets of rows

-- Both are the left rail, or the same rows before one column.
pub record IsSame (first second : Ends) : Type 0 where
  pub column : first.column ≡ second.column
  pub rows : (first.column ≡ 0 → ⊥) → first.rows ≡ second.rows

-- The cell at a place is the only one of which these are the right end.
pub record IsEndOf (ends : Ends) (place : ℕ) : Type 0 where
  pub within : place < PLACES
  pub next : ends.column ≡ place / ROWS + 1
  pub only : (q : ℕ) → q < ROWS → has_row ends.rows q ≡ (q == place % ROWS)

-- Each row is in one part at least, before the same column.
pub record IsSplit (ends : Ends) (parts : Parts) : Type 0 where
  pub upper : parts.upper.column ≡ ends.column
  pub lower : parts.lower.column ≡ ends.column
  pub rows : (q : ℕ) → q < ROWS → has_row ends.rows q ≡ (has_row parts.upper.rows q || has_row parts.lower.rows q)

-- ---- power

abbrev pub SeesIn : Network → Kept → ℕ → Frame Bool → Frame Bool → Type 0
SeesIn net k now f s = Sees net.program.now net.rung net.done.now net.known.now k now f s

abbrev pub power_at : Network → Kept → ℕ → Frame Bool → Ends → Bool
power_at net k now f ends = power net.program.now net.rung k now f ends.column ends.rows

-- From these rows to those, power comes through where statements see that a condition holds.
pub record Carries (net : Network) (from to : Ends) (through : Frame Bool → Bool) : Type 0 where
  pub carried : (k : Kept) (now : ℕ) (f s : Frame Bool) → SeesIn net k now f s → power_at net k now f to ≡ (power_at net k now f from && through s)

-- There is power on these rows where statements see that a condition holds.
pub record Shows (net : Network) (ends : Ends) (through : Frame Bool → Bool) : Type 0 where
  pub shown : (k : Kept) (now : ℕ) (f s : Frame Bool) → SeesIn net k now f s → power_at net k now f ends ≡ through s

-- ---- operands and contacts

abbrev pub meant_in : Network → Kept → ℕ → Frame Bool → Meaning → Bool
meant_in net k now f meaning = meant net.program.now net.rung k now f meaning

-- What stands for the one has the value of the other.
pub record Means (net : Network) (first second : Meaning) : Type 0 where
  pub meant : (k : Kept) (now : ℕ) (f s : Frame Bool) → SeesIn net k now f s → meant_in net k now f first ≡ meant_in net k now f second

-- The operand has the value of what it stands for.
pub record Stands (net : Network) (operand : Operand) (meaning : Meaning) : Type 0 where
  pub stood : (k : Kept) (now : ℕ) (f s : Frame Bool) → SeesIn net k now f s → seen s operand ≡ meant_in net k now f meaning

-- The cell is no block, and closed where statements see that a condition holds, whatever its memory has.
pub record IsLiteral (net : Network) (c : Cell) (through : Frame Bool → Bool) : Type 0 where
  pub no_block : is_block c ≡ false
  pub closed_is : (memory : Bool) (k : Kept) (now : ℕ) (f s : Frame Bool) → SeesIn net k now f s → closed plain f memory c ≡ through s

abbrev pub cell_in : Network → ℕ → Cell
cell_in net place = cell_of net.program.now net.rung place

-- The cell at a place is no block, and closed where statements see that a condition holds.
pub record LetsThrough (net : Network) (place : ℕ) (through : Frame Bool → Bool) : Type 0 where
  pub no_block : is_block (cell_in net place) ≡ false
  pub closed_is : (k : Kept) (now : ℕ) (f s : Frame Bool) → SeesIn net k now f s
      → closed plain f (memory_of k (cell_in net place)) (cell_in net place) ≡ through s
