-- Why a coil has no power: where power ends on each route to it. Rungs, rows, columns and places are counted from 0, and written from 1.
use Rattle.std.specs.Prelude.{ℕ, ◌+◌, ◌%◌, ◌/◌, ◌==◌, Bool, true, false, if◌then◌else◌, List, [], ◌++◌, codes, decimal, Option, Some, None, zero, suc}
use Rattle.std.specs.List.{list_any}
use Rattle.std.specs.Option.{option_or}
use Rattle.diagram_declarations.specs.Decls.{Declared, instance_name, output_suffix, var_name}
use Rattle.diagram_program.specs.declared.geometry.TheConstants.{ROWS, PLACES}
use Rattle.diagram_program.specs.declared.mode.Mode.TheVariants.{Plain, Negated, Rising, Falling}
use Rattle.diagram_program.specs.declared.cell.Operand.TheVariants as operand
use Rattle.diagram_program.specs.declared.cell.Cell.{Cell}
use Rattle.diagram_program.specs.declared.cell.Cell.TheVariants.{Wire, Contact, Coil, Block}
use Rattle.diagram_program.specs.Program.{Drawing, cell_of, feeds, is_block, is_coil_of, site_at}
use Rattle.scan_cycle.specs.declared.seen.Mark.{Mark}
use Rattle.scan_cycle.specs.Cells.{place_at}
use Rattle.scan_cycle.specs.Routes.{Route, rail, block_end, through, routes}
use Rattle.text_power.specs.Show.{each, mark_in}

-- ---- where power ends

-- A wire passes power on, a coil too, and a contact where it is closed. No route goes on through another cell.
abbrev pub is_closed : Mark → Cell → Bool
is_closed m Wire = true
is_closed m (Contact mode operand memory) = m.on
is_closed m (Coil mode var memory) = true
is_closed m other = false

-- a place, where power ends there
abbrev pub end_unless : Bool → ℕ → Option ℕ
end_unless passes place = if passes then None else Some place

-- Where power ends on a route in rung j: at the block that it begins at, where the block's Q is OFF, and else at the first open contact.
unfoldable pub end_of : Drawing → List Mark → ℕ → Route → Option ℕ
end_of p marks j rail = None
end_of p marks j (block_end row column) = end_unless (mark_in marks j row column).right (place_at row column)
end_of p marks j (through r row column) =
    option_or (end_of p marks j r) (end_unless (is_closed (mark_in marks j row column) (site_at p j row column).cell) (place_at row column))

-- all routes to the left link of the cell at a row and a column
abbrev pub routes_to : Drawing → ℕ → ℕ → ℕ → List Route
routes_to p j row column = routes (feeds p j) (λ r c. is_block (site_at p j r c).cell) row column

abbrev pub is_some_of : ℕ → Option ℕ → Bool
is_some_of n None = false
is_some_of n (Some m) = m == n

-- Power ends at the place n on one of the routes to a row and a column.
abbrev pub ends_at : Drawing → List Mark → ℕ → ℕ → ℕ → ℕ → Bool
ends_at p marks j row column n = list_any (λ r. is_some_of n (end_of p marks j r)) (routes_to p j row column)

-- ---- what is written of it

-- what a contact reads, or whose output a block gives
abbrev pub open_name : Declared → Cell → List ℕ
open_name d (Contact mode (operand.Var var) memory) = var_name d var
open_name d (Contact mode (operand.Output inst) memory) = instance_name d inst
open_name d (Block inst) = instance_name d inst
open_name d other = []

-- which output that is, `.Q` or `.Q1`, where it is one
abbrev pub open_output : Declared → Cell → List ℕ
open_output d (Contact mode (operand.Output inst) memory) = output_suffix d inst
open_output d (Block inst) = output_suffix d inst
open_output d other = []

-- why no power goes on there
abbrev pub open_reason : Cell → List ℕ
open_reason (Contact Plain operand memory) = codes " is OFF"
open_reason (Contact Negated operand memory) = codes " is ON"
open_reason (Contact Rising operand memory) = codes " has not become ON"
open_reason (Contact Falling operand memory) = codes " has not become OFF"
open_reason (Block inst) = codes " is OFF"
open_reason other = []

-- A line for a place where power ends: `row R, column C: NAME is OFF`.
abbrev pub end_line : Drawing → ℕ → ℕ → List ℕ
end_line p j n =
    codes "(* row " ++ (decimal (n % ROWS + 1) ++ (codes ", column " ++ (decimal (n / ROWS + 1) ++ (codes ": "
    ++ (open_name p.decls (cell_of p j n) ++ (open_output p.decls (cell_of p j n) ++ (open_reason (cell_of p j n) ++ codes " *)\n")))))))

-- A line for each place where power ends on a route to the cell at a place, by column and row.
abbrev pub end_note : Drawing → List Mark → ℕ → ℕ → ℕ → List ℕ
end_note p marks j at n = if ends_at p marks j (at % ROWS) (at / ROWS) n then end_line p j n else []

abbrev pub end_notes : Drawing → List Mark → ℕ → ℕ → List ℕ
end_notes p marks j at = each (end_note p marks j at) PLACES

-- The last rung above rung j that was evaluated: the one whose jump or return passes over rung j, where that is passed over.
unfoldable pub evaluated_above : List Mark → ℕ → ℕ
evaluated_above marks zero = 0
evaluated_above marks (suc j) = if (mark_in marks j 0 0).evaluated then j else evaluated_above marks j

-- A coil and its place: `NAME in rung J, row R, column C`.
abbrev pub coil_head : Drawing → ℕ → ℕ → ℕ → List ℕ
coil_head p var j at =
    codes "(* " ++ (var_name p.decls var ++ (codes " in rung " ++ (decimal (j + 1) ++ (codes ", row " ++ (decimal (at % ROWS + 1)
    ++ (codes ", column " ++ decimal (at / ROWS + 1)))))))

abbrev pub passed_note : ℕ → List ℕ
passed_note above = codes ": passed over" ++ (codes " by rung " ++ (decimal (above + 1) ++ codes " *)\n"))

abbrev pub dead_notes : Drawing → List Mark → ℕ → ℕ → List ℕ
dead_notes p marks j at = codes ": no power, which ends at *)\n" ++ end_notes p marks j at

-- Whether there is power at it, and where power ends where there is none.
abbrev pub power_notes : Drawing → List Mark → ℕ → ℕ → Mark → List ℕ
power_notes p marks j at m =
    if m.evaluated then (if m.left then codes ": power *)\n" else dead_notes p marks j at)
    else passed_note (evaluated_above marks j)

-- The notes of each coil of a variable, by rung, column and row.
abbrev pub coil_notes : Drawing → List Mark → ℕ → ℕ → ℕ → List ℕ
coil_notes p marks var j at = coil_head p var j at ++ power_notes p marks j at (mark_in marks j (at % ROWS) (at / ROWS))

abbrev pub place_notes : Drawing → List Mark → ℕ → ℕ → ℕ → List ℕ
place_notes p marks var j at = if is_coil_of var (cell_of p j at) then coil_notes p marks var j at else []

abbrev pub rung_why : Drawing → List Mark → ℕ → ℕ → List ℕ
rung_why p marks var j = each (place_notes p marks var j) PLACES

abbrev pub why : Drawing → List Mark → ℕ → List ℕ
why p marks var = each (rung_why p marks var) p.rungs
