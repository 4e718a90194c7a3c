-- What each cell of a rung reads and writes, over any signal.
use Rattle.std.specs.Prelude.{ℕ, ◌+◌, ◌*◌, Bool, true, false, List, Option, Some, None, slice_index_or, slice_set}
use Rattle.diagram_declarations.specs.declared.kind.BlockKind.{BlockKind}
use Rattle.diagram_declarations.specs.declared.kind.BlockKind.TheVariants.{Ton}
use Rattle.diagram_program.specs.declared.geometry.TheConstants.{ROWS}
use Rattle.diagram_program.specs.declared.mode.Mode.{Mode}
use Rattle.diagram_program.specs.declared.mode.Mode.TheVariants.{Plain, Negated, Rising, Falling}
use Rattle.diagram_program.specs.declared.mode.CoilMode.{CoilMode}
use Rattle.diagram_program.specs.declared.mode.CoilMode.TheVariants as coil
use Rattle.diagram_program.specs.declared.cell.Operand.{Operand}
use Rattle.diagram_program.specs.declared.cell.Operand.TheVariants.{Var, Output}
use Rattle.diagram_program.specs.declared.cell.Cell.{Cell}
use Rattle.diagram_program.specs.declared.cell.Cell.TheVariants.{Wire, Contact, Coil, Block}
use Rattle.diagram_program.specs.Program.{memory_in}
use Rattle.scan_signals.specs.declared.block.Stored.{Stored}
use Rattle.scan_signals.specs.Algebra.{Algebra}
use Rattle.scan_signals.specs.Blocks.{step, q_of, new_block}

-- The place of a cell in its rung. Rows and columns are counted from 0.
abbrev pub place_at : ℕ → ℕ → ℕ
place_at row column = ROWS * column + row

-- A program as the scan sees it. Each field is what the drawing has (`diagram_of` in Programs). A cell is addressed by its rung and its
-- place in it; past the last place it is Empty.
pub record Diagram : Type 0 where
  pub rungs : ℕ
  pub cell : ℕ → ℕ → Cell
  -- rung, row, column, from: the right link of the cell at (from, column - 1) enters the group of the joint on the left of (row, column)
  pub feeds : ℕ → ℕ → ℕ → ℕ → Bool
  -- rung, place: the cell below is the lower cell of a block and has a left link
  pub linked : ℕ → ℕ → Bool
  -- of an instance
  pub kind : ℕ → BlockKind
  pub preset : ℕ → ℕ
  -- the place of a rung's jump or return, and the rung that it goes to, for a return the number of rungs
  pub jump : ℕ → Option (ℕ × ℕ)
  -- for each variable, whether it is an input
  pub inputs : List Bool

-- What contacts and coils see: the values of the variables, and the Q of each instance.
pub record Frame (S : Type 0) : Type 0 where
  pub values : List S
  pub ends : List S

abbrev pub frame : {S : Type 0} → List S → List S → Frame S
frame values ends = record { values = values; ends = ends }

-- What is kept beside the values: the memories of edge contacts and edge coils, and what each instance stores.
pub record Kept : Type 0 where
  pub memories : List Bool
  pub blocks : List Stored

-- The entry of a list at an optional number, and the list with that entry replaced.
abbrev pub at : {A : Type 0} → List A → Option ℕ → A → A
at xs i otherwise = elim i [ Some i ↦ slice_index_or xs i otherwise | None ↦ otherwise ]

abbrev pub put_in : {A : Type 0} → List A → Option ℕ → A → List A
put_in xs i x = elim i [ Some i ↦ slice_set xs i x | None ↦ xs ]

-- A cell writes at most one variable; it has at most one memory (`memory_in`) and steps at most one instance (`block_in`).
abbrev pub var_in : Cell → Option ℕ
var_in c = elim c [ Coil mode var memory ↦ Some var | _ ↦ None ]

abbrev pub memory_of : Kept → Cell → Bool
memory_of k c = at k.memories (memory_in c) false

abbrev pub operand_value : {S : Type 0} → Algebra S → Frame S → Operand → S
operand_value o f x = elim x [ Var var ↦ slice_index_or f.values var (o.known false) | Output inst ↦ slice_index_or f.ends inst (o.known false) ]

-- How far a contact is closed, by its operand's value x and its memory m, which is the value that the operand had:
-- `| |` where x is ON, `|/|` where it is OFF, `|P|` where it has become ON, `|N|` where it has become OFF.
abbrev pub contact : {S : Type 0} → Algebra S → Mode → S → S → S
contact o Plain x m = x
contact o Negated x m = o.inverse x
contact o Rising x m = o.meet x (o.inverse m)
contact o Falling x m = o.meet (o.inverse x) m

-- How far a cell is closed, m being its memory. Wires and coils pass their left link on. No route goes through the others.
abbrev pub closed : {S : Type 0} → Algebra S → Frame S → S → Cell → S
closed o f m Wire = o.known true
closed o f m (Contact mode operand memory) = contact o mode (operand_value o f operand) m
closed o f m (Coil mode var memory) = o.known true
closed o f m other = o.known false

-- The Q of a block's step over any signal: by its inputs x and y, the choice among the Qs for known inputs.
abbrev pub q_from : {S : Type 0} → Algebra S → BlockKind → ℕ → Stored → ℕ → S → S → S
q_from o kind preset stored now x y =
    let q = λ (first second : Bool). o.known (q_of (step kind preset stored first second now)) in
    o.choice x (o.choice y (q true true) (q true false)) (o.choice y (q false true) (q false false))

-- The Q of the block in a cell, in this evaluation; other cells have none. Past the last instance a new TON is read.
abbrev pub q_here : {S : Type 0} → Algebra S → Diagram → Kept → ℕ → Cell → S → S → S
q_here o d k now (Block inst) x y = q_from o (d.kind inst) (d.preset inst) (slice_index_or k.blocks inst (new_block Ton)) now x y
q_here o d k now other x y = o.known false

-- What a coil writes, by its left link, its memory m, which is the link that it had, and the old value of its variable:
-- `( )` the link, `(/)` its inverse, `(S)` ON and `(R)` OFF where the link is ON, `(P)` whether the link has become ON, `(N)` whether OFF.
abbrev pub stored_by : {S : Type 0} → Algebra S → CoilMode → S → S → S → S
stored_by o coil.Store link m old = link
stored_by o coil.Inverse link m old = o.inverse link
stored_by o coil.Set link m old = o.choice link (o.known true) old
stored_by o coil.Reset link m old = o.choice link (o.known false) old
stored_by o coil.Rising link m old = o.meet link (o.inverse m)
stored_by o coil.Falling link m old = o.meet (o.inverse link) m

abbrev pub coil_value : {S : Type 0} → Algebra S → Cell → S → S → S → S
coil_value o (Coil mode var memory) link m old = stored_by o mode link m old
coil_value o other link m old = old
