-- What statements see while they do what a rung does: the values that the rung had at its start, and what is known of what they wrote since.
use Rattle.std.specs.Prelude.{◌≡◌, ℕ, ◌<◌, ◌/◌, ◌%◌, ◌==◌, All, Bool, true, false, List, length, slice_index_or}
use Rattle.std.specs.List.{list_any}
use Rattle.diagram_program.specs.declared.geometry.TheConstants.{ROWS}
use Rattle.diagram_program.specs.declared.gates.Action.{Action}
use Rattle.diagram_program.specs.declared.cell.Cell.{Cell}
use Rattle.diagram_program.specs.declared.cell.Cell.TheVariants.{Block}
use Rattle.diagram_program.specs.Program.{Drawing, cell_of, is_coil_of}
use Rattle.scan_signals.specs.Truth.{plain}
use Rattle.scan_cycle.specs.Cells.{Frame, Kept, closed, memory_of, operand_value}
use Rattle.scan_cycle.specs.Programs.{diagram_of}
use Rattle.draw_power.specs.Power.{power, right}
use Rattle.export_power.specs.declared.known.Known.{Known}
use Rattle.export_power.specs.declared.known.Meaning.{Meaning}
use Rattle.export_power.specs.declared.known.Meaning.TheVariants.{Start, Closed, Power}

-- One of these cells is a coil on the variable.
abbrev pub is_written : ℕ → List Action → Bool
is_written variable done = list_any (λ a. is_coil_of variable a.cell) done

abbrev pub is_block_of : ℕ → Cell → Bool
is_block_of instance c = elim c [ Block number ↦ number == instance | _ ↦ false ]

-- One of these cells is the block of the instance.
abbrev pub is_called : ℕ → List Action → Bool
is_called instance done = list_any (λ a. is_block_of instance a.cell) done

-- What a variable stands for, by what the rung had at its start: the value of an operand, whether a contact is closed, or the power on
-- the right of some rows, just before a column.
abbrev pub meant : Drawing → (rung : ℕ) → Kept → (now : ℕ) → Frame Bool → Meaning → Bool
meant p rung k now f (Start operand) = operand_value plain f operand
meant p rung k now f (Closed place) = closed plain f (memory_of k (cell_of p rung place)) (cell_of p rung place)
meant p rung k now f (Power ends) = power p rung k now f ends.column ends.rows

-- A rung began with the memories and blocks `k` and the frame `f`. Statements that have done what these cells of it do see `s`: each variable of
-- the program that no such coil wrote has the value that it had, and each output whose block wasn't called; a block that was called has
-- the output that leaves its cell; and each known variable has the value of what it stands for.
pub record Sees (p : Drawing) (rung : ℕ) (done : List Action) (known : List Known) (k : Kept) (now : ℕ) (f s : Frame Bool) : Type 0 where
  pub values : (v : ℕ) → v < length p.decls.vars → is_written v done ≡ false → slice_index_or s.values v false ≡ slice_index_or f.values v false
  pub ends : (i : ℕ) → is_called i done ≡ false → slice_index_or s.ends i false ≡ slice_index_or f.ends i false
  pub called : (i place : ℕ) → (diagram_of p).cell rung place ≡ Block i → is_called i done ≡ true
      → slice_index_or s.ends i false ≡ right p rung k now f (place / ROWS) (place % ROWS)
  pub stands : All (λ (x : Known). slice_index_or s.values x.variable false ≡ meant p rung k now f x.meaning) known
