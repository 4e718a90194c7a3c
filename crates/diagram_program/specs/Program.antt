-- A program: its declarations, and what its drawing has at each place.
-- Rungs, rows and columns are counted from 0. The place of a cell in its rung is ROWS * column + row.
use Rattle.std.specs.Prelude.{◌≡◌, ℕ, ◌+◌, ◌-◌, ◌*◌, ◌/◌, ◌%◌, ◌<◌, ◌≤◌, min, max, nat_le, Bool, true, false, ◌&&◌, ◌==◌, List, length, count_by, slice_get, slice_index_or, Option, Some, None, is_some, option_map}
use Rattle.std.specs.List.{filter_map, list_all, list_any, range_with_len}
use Rattle.diagram_declarations.specs.Decls.{Declared, is_input_at}
use Rattle.diagram_declarations.specs.declared.decls.Instance.{Instance}
use Rattle.diagram_declarations.specs.declared.kind.Pin.{Pin}
use Rattle.diagram_program.specs.declared.geometry.TheConstants.{RUNGS, ROWS, PLACES}
use Rattle.diagram_program.specs.Geometry.{place}
use Rattle.diagram_declarations.specs.Kind.{traits_of}
use Rattle.diagram_program.specs.declared.cell.Operand.{Operand}
use Rattle.diagram_program.specs.declared.cell.Operand.TheVariants as operand
use Rattle.diagram_program.specs.declared.cell.Cell.{Cell}
use Rattle.diagram_program.specs.declared.cell.Cell.TheVariants as cell
use Rattle.diagram_program.specs.declared.cell.Joint.{Joint}
use Rattle.diagram_program.specs.declared.cell.Joint.TheVariants as joint
use Rattle.diagram_program.specs.declared.mode.CoilMode.{CoilMode}
use Rattle.diagram_program.specs.declared.mode.Mode.{Mode}
use Rattle.diagram_program.specs.declared.site.Site.{Site}

-- The declarations, and what is at each place: all places by rung, column and row.
pub record Drawing : Type 0 where
  pub decls : Declared
  pub rungs : ℕ
  pub sites : List Site

abbrev pub drawing : Declared → ℕ → List Site → Drawing
drawing decls rungs sites = record { decls = decls; rungs = rungs; sites = sites }

-- what is at a place, nothing past the last
abbrev pub site_in : Drawing → ℕ → Site
site_in d i = slice_index_or d.sites i (record { cell = cell.Empty; right_link = false; joint = joint.Blank; vertical = false })

abbrev pub site_at : Drawing → ℕ → ℕ → ℕ → Site
site_at d rung row column = site_in d (place rung row column)

abbrev pub cell_in : Drawing → ℕ → Cell
cell_in d i = (site_in d i).cell

-- the cell at a place of a rung
abbrev pub cell_of : Drawing → ℕ → ℕ → Cell
cell_of d rung at = cell_in d (PLACES * rung + at)

-- Power goes from a right link into the group of a joint where the joint is `-` or `+` (IEC 61131-3, power flow).
abbrev pub takes_power : Joint → Bool
takes_power j = elim j [ joint.Dash ↦ true | joint.Plus ↦ true | _ ↦ false ]

-- vertical links on the left of the column join the n + 1 rows from this one on
unfoldable pub joined : Drawing → ℕ → ℕ → ℕ → ℕ → Bool
joined d rung row column n = list_all (λ r. (site_at d rung r column).vertical) (range_with_len row n)

-- The right link of the row `from` in the column before enters the group of the row's joint.
abbrev pub feeds : Drawing → ℕ → ℕ → ℕ → ℕ → Bool
feeds d rung row column from =
    nat_le 1 column && ((site_at d rung from (column - 1)).right_link && (takes_power (site_at d rung from column).joint
    && joined d rung (min row from) column (max row from - min row from)))

abbrev pub is_empty : Cell → Bool
is_empty cell.Empty = true
is_empty other = false

-- where a cell leads out of its rung: past the last one by a return
abbrev pub goes_to : ℕ → Cell → Option ℕ
goes_to rungs c = elim c [ cell.Jump target ↦ Some target | cell.Return ↦ Some rungs | _ ↦ None ]

-- The row and the column of the rung's jump or return, and its target. A rung has at most one.
unfoldable pub jump_of : Drawing → ℕ → Option (ℕ × ℕ × ℕ)
jump_of d rung =
    slice_get (filter_map (λ at. option_map (λ target. (at % ROWS, at / ROWS, target)) (goes_to d.rungs (cell_of d rung at))) (range_with_len 0 PLACES)) 0

abbrev pub memory_in : Cell → Option ℕ
memory_in c = elim c [ cell.Contact mode operand memory ↦ memory | cell.Coil mode var memory ↦ memory | _ ↦ None ]

abbrev pub has_memory : Cell → Bool
has_memory c = is_some (memory_in c)

-- how many edge contacts and edge coils there are
abbrev pub memories_of : Drawing → ℕ
memories_of d = count_by (λ s. has_memory s.cell) d.sites

-- the mode of a contact, and what it reads
abbrev pub contact_in : Cell → Option (Mode × Operand)
contact_in c = elim c [ cell.Contact mode operand memory ↦ Some (mode, operand) | _ ↦ None ]

-- the mode of a coil, and the variable that it writes
abbrev pub coil_in : Cell → Option (CoilMode × ℕ)
coil_in c = elim c [ cell.Coil mode var memory ↦ Some (mode, var) | _ ↦ None ]

abbrev pub is_coil_of : ℕ → Cell → Bool
is_coil_of var c = elim c [ cell.Coil mode v memory ↦ v == var | _ ↦ false ]

-- whether a coil writes the variable
abbrev pub has_coil : ℕ → Drawing → Bool
has_coil var d = list_any (λ s. is_coil_of var s.cell) d.sites

-- There are at most `RUNGS` rungs, each of `PLACES` places.
pub record IsWhole (d : Drawing) : Type 0 where
  pub few : d.rungs ≤ RUNGS
  pub size : length d.sites ≡ PLACES * d.rungs

abbrev pub block_in : Cell → Option ℕ
block_in c = elim c [ cell.Block inst ↦ Some inst | _ ↦ None ]

abbrev pub is_block : Cell → Bool
is_block c = is_some (block_in c)

-- a lower cell that has a left link
abbrev pub is_linked : Cell → Bool
is_linked c = elim c [ cell.Lower inst linked ↦ linked | _ ↦ false ]

abbrev pub OperandFits : Declared → Operand → Type 0
OperandFits decls (operand.Var number) = number < length decls.vars
OperandFits decls (operand.Output number) = number < length decls.instances

-- The numbers that a cell has are those of declarations, and no coil writes an input.
abbrev pub Fits : Declared → Cell → Type 0
Fits decls (cell.Contact mode operand memory) = OperandFits decls operand
Fits decls (cell.Coil mode var memory) = (var < length decls.vars) × (is_input_at (slice_get decls.vars var) ≡ false)
Fits decls (cell.Block inst) = inst < length decls.instances
Fits decls (cell.Lower inst linked) = inst < length decls.instances
Fits decls other = Unit {0}

abbrev pub is_pin : Option Pin → Bool
is_pin None = false
is_pin (Some p) = true

-- an instance with a second input
abbrev pub has_second : Option Instance → Bool
has_second None = false
has_second (Some i) = is_pin (traits_of i.kind).second_input

-- What the rules of a drawing make sure of, and a scan rests on: each memory and each instance belongs to one cell; a rung has
-- one jump, to a later rung or past the last one; a lower cell is under its block.
pub record IsWellFormed (d : Drawing) : Type 0 where
  pub one_memory : (number i j : ℕ) → memory_in (cell_in d i) ≡ Some number
      → memory_in (cell_in d j) ≡ Some number → i ≡ j
  pub memories_below : (number i : ℕ) → memory_in (cell_in d i) ≡ Some number → number < memories_of d
  pub one_block : (number i j : ℕ) → block_in (cell_in d i) ≡ Some number
      → block_in (cell_in d j) ≡ Some number → i ≡ j
  pub one_jump : (rung i j s t : ℕ) → i < PLACES → j < PLACES → goes_to d.rungs (cell_of d rung i) ≡ Some s
      → goes_to d.rungs (cell_of d rung j) ≡ Some t → i ≡ j
  pub jumps_down : (rung i target : ℕ) → i < PLACES → goes_to d.rungs (cell_of d rung i) ≡ Some target → (rung < target) × (target ≤ d.rungs)
  pub under_block : (i inst : ℕ) (linked : Bool) → cell_in d i ≡ cell.Lower inst linked
      → (1 ≤ i % ROWS) × (cell_in d (i - 1) ≡ cell.Block inst)
  pub fits : (i : ℕ) → Fits d.decls (cell_in d i)
  pub has_lower : (i inst : ℕ) → cell_in d i ≡ cell.Block inst → has_second (slice_get d.decls.instances inst) ≡ true
      → (linked : Bool) × (i % ROWS + 1 < ROWS) × (cell_in d (i + 1) ≡ cell.Lower inst linked)
