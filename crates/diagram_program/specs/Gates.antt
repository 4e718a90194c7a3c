-- Private: a rung as gates, which a scan evaluates.
-- A gate gives its left link AND a literal, OR what another gate gave, and what it gives is kept at the place of its cell. So a gate
-- has the OR of what its cell and those above it bring into their group, and the last cell that feeds a group has the OR of the group.
use Rattle.std.specs.Prelude.{ℕ, zero, suc, ◌+◌, ◌-◌, ◌*◌, ◌/◌, ◌%◌, nat_lt, ◌&&◌, ◌||◌, ◌==◌, Bool, true, false, List, [], ◌∷◌, ◌++◌, Option, Some, None, is_some, if◌then◌else◌}
use Rattle.diagram_program.specs.declared.geometry.TheConstants.{ROWS, COLUMNS, PLACES}
use Rattle.diagram_program.specs.declared.gates.TheConstants.{ON, OFF, VARIABLES}
use Rattle.diagram_program.specs.declared.mode.Mode.{Mode}
use Rattle.diagram_program.specs.declared.mode.Mode.TheVariants as mode
use Rattle.diagram_program.specs.declared.cell.Operand.{Operand}
use Rattle.diagram_program.specs.declared.cell.Operand.TheVariants as operand
use Rattle.diagram_program.specs.declared.cell.Cell.{Cell}
use Rattle.diagram_program.specs.declared.cell.Cell.TheVariants as cell
use Rattle.diagram_program.specs.declared.gates.Gate.{Gate}
use Rattle.diagram_program.specs.declared.gates.Action.{Action}
use Rattle.diagram_program.specs.declared.gates.Exit.{Exit}
use Rattle.diagram_program.specs.declared.gates.Leap.{Leap}
use Rattle.diagram_program.specs.declared.gates.Literal.{Literal}
use Rattle.diagram_program.specs.declared.gates.Literal.TheVariants as literal
use Rattle.diagram_program.specs.Program.{Drawing, cell_of, feeds, jump_of, is_linked, is_block}

-- ---- where links are

-- base + i for the last i below n that passes the test; OFF where none does
unfoldable pub last_of : (ℕ → Bool) → ℕ → ℕ → ℕ
last_of f base zero = OFF
last_of f base (suc n) = if f n then base + n else last_of f base n

-- The place of the last row below `count` in the column before that feeds the cell.
abbrev pub last_feeder : Drawing → ℕ → ℕ → ℕ → ℕ → ℕ
last_feeder d rung row column count = last_of (feeds d rung row column) (ROWS * (column - 1)) count

-- where the left link of a cell is
abbrev pub left_of : Drawing → ℕ → ℕ → ℕ
left_of d rung at = if at / ROWS == 0 then ON else last_feeder d rung (at % ROWS) (at / ROWS) ROWS

-- where the OR is of what comes from the rows above into the group on the right of a cell
abbrev pub other_of : Drawing → ℕ → ℕ → ℕ
other_of d rung at = if nat_lt (at / ROWS + 1) COLUMNS then last_feeder d rung (at % ROWS) (at / ROWS + 1) (at % ROWS) else OFF

-- where the left link of the lower cell below is, where it has one
abbrev pub below_of : Drawing → ℕ → ℕ → ℕ
below_of d rung at = if nat_lt (at % ROWS + 1) ROWS && is_linked (cell_of d rung (at + 1)) then left_of d rung (at + 1) else OFF

-- ---- gates

abbrev pub literal_on : Mode → Operand → Literal
literal_on mode.Plain (operand.Var var) = if nat_lt var VARIABLES then literal.Is var else literal.Other
literal_on mode.Negated (operand.Var var) = if nat_lt var VARIABLES then literal.Not var else literal.Other
literal_on m x = literal.Other

abbrev pub literal_of : Cell → Literal
literal_of (cell.Contact mode operand memory) = literal_on mode operand
literal_of other = literal.Other

abbrev pub gate_at : Drawing → ℕ → ℕ → Gate
gate_at d rung at = record {
  place = at;
  left = left_of d rung at;
  below = below_of d rung at;
  other = other_of d rung at;
  literal = literal_of (cell_of d rung at);
}

-- The right link of the cell enters the group on its right.
abbrev pub feeds_on : Drawing → ℕ → ℕ → Bool
feeds_on d rung at = nat_lt (at / ROWS + 1) COLUMNS && feeds d rung (at % ROWS) (at / ROWS + 1) (at % ROWS)

abbrev pub has_gate : Drawing → ℕ → ℕ → Bool
has_gate d rung at = is_block (cell_of d rung at) || feeds_on d rung at

unfoldable pub gates_before : Drawing → ℕ → ℕ → List Gate
gates_before d rung zero = []
gates_before d rung (suc at) =
    if has_gate d rung at then gates_before d rung at ++ gate_at d rung at ∷ []
    else gates_before d rung at

-- A gate for each cell that feeds others, and for each block, by column and row.
unfoldable pub gates_of : Drawing → ℕ → List Gate
gates_of d rung = gates_before d rung PLACES

-- ---- what a rung does

-- The cell writes a variable, a memory or an instance.
abbrev pub acts : Cell → Bool
acts (cell.Contact mode operand memory) = is_some memory
acts (cell.Coil mode var memory) = true
acts (cell.Block inst) = true
acts other = false

abbrev pub action_at : Drawing → ℕ → ℕ → Action
action_at d rung at = record { cell = cell_of d rung at; place = at; left = left_of d rung at; below = below_of d rung at }

unfoldable pub actions_before : Drawing → ℕ → ℕ → List Action
actions_before d rung zero = []
actions_before d rung (suc at) =
    if acts (cell_of d rung at) then actions_before d rung at ++ action_at d rung at ∷ []
    else actions_before d rung at

-- One for each cell that writes, by column and row.
unfoldable pub actions_of : Drawing → ℕ → List Action
actions_of d rung = actions_before d rung PLACES

-- The jump of a rung: where its left link is, and the rung that it goes to.
abbrev pub exit_by : Drawing → ℕ → Option (ℕ × ℕ × ℕ) → Option Exit
exit_by d rung None = None
exit_by d rung (Some jump) = Some (record { left = left_of d rung (ROWS * jump.1 + jump.0); target = jump.2 })

abbrev pub exit_of : Drawing → ℕ → Option Exit
exit_of d rung = exit_by d rung (jump_of d rung)

abbrev pub leap_by : ℕ → Option (ℕ × ℕ × ℕ) → List Leap
leap_by rung None = []
leap_by rung (Some jump) = record { rung = rung; target = jump.2 } ∷ []

-- The rungs below n that have a jump, and where these go.
unfoldable pub leaps_below : Drawing → ℕ → List Leap
leaps_below d zero = []
leaps_below d (suc n) = leaps_below d n ++ leap_by n (jump_of d n)
