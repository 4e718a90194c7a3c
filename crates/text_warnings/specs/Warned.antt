-- Which places of a drawing have a warning: what a drawing that breaks no rule has, and most likely does not mean.
-- Rungs, rows and columns are counted from 0. Places go by rung, column and row.
use Rattle.std.specs.Prelude.{◌≡◌, ◌⊎◌, ◌+◌, ◌-◌, ◌/◌, ◌%◌, ◌<◌, ◌≤◌, ℕ, Bool, true, false, Option, Some, None, IsSomeAnd, length, slice_get}
use Rattle.diagram_declarations.specs.Decls.{Declared}
use Rattle.diagram_declarations.specs.declared.decls.Symbol.{Symbol}
use Rattle.diagram_declarations.specs.declared.decls.Symbol.TheVariants as symbol
use Rattle.diagram_declarations.specs.declared.decls.VarKind.{VarKind}
use Rattle.diagram_declarations.specs.declared.decls.VarKind.TheVariants as kind
use Rattle.diagram_program.specs.declared.geometry.TheConstants.{COLUMNS, PLACES, ROWS}
use Rattle.diagram_program.specs.declared.mode.CoilMode.{CoilMode}
use Rattle.diagram_program.specs.declared.mode.CoilMode.TheVariants as coil
use Rattle.diagram_program.specs.declared.cell.Cell.{Cell}
use Rattle.diagram_program.specs.declared.cell.Cell.TheVariants as cell
use Rattle.diagram_program.specs.declared.cell.Joint.TheVariants as joint
use Rattle.diagram_program.specs.declared.cell.Operand.TheVariants as operand
use Rattle.diagram_program.specs.Program.{Drawing, block_in, cell_in, coil_in, has_coil, is_coil_of, is_empty, site_at}
use Rattle.text_warnings.specs.Below.{SomeBelow}
use Rattle.text_warnings.specs.Routes.{LeadsNowhere}
use Rattle.text_warnings.specs.Ways.{IsNeverReached}
use Rattle.text_warnings.specs.declared.warning.Warning.{Warning}
use Rattle.text_warnings.specs.declared.warning.Warning.TheVariants as warning

-- ---- crossings

-- Two joints `+`, one over the other, with no `|` between them: they read as an OR of two rows, and join nothing.
abbrev pub IsLooseCrossing : Drawing → ℕ → ℕ → ℕ → Type 0
IsLooseCrossing d rung row column =
    (1 ≤ column) × (row + 1 < ROWS) × ((site_at d rung row column).joint ≡ joint.Plus) × ((site_at d rung (row + 1) column).joint ≡ joint.Plus)
    × ((site_at d rung row column).vertical ≡ false)

-- ---- rows

-- something is drawn there
abbrev pub HasCellAt : Drawing → ℕ → ℕ → ℕ → Type 0
HasCellAt d rung row column = is_empty (site_at d rung row column).cell ≡ false

-- something is drawn in the row
abbrev pub HasCells : Drawing → ℕ → ℕ → Type 0
HasCells d rung row = SomeBelow COLUMNS (HasCellAt d rung row)

abbrev pub is_lower : Cell → Bool
is_lower c = elim c [ cell.Lower inst linked ↦ true | _ ↦ false ]

-- At the column the row is joined with the one above it: by a block, of which it has the lower cell, or by a vertical link.
abbrev pub IsJoinedAt : Drawing → ℕ → ℕ → ℕ → Type 0
IsJoinedAt d rung row column =
    (is_lower (site_at d rung row column).cell ≡ true) ⊎ ((1 ≤ column) × ((site_at d rung (row - 1) column).vertical ≡ true))

-- The first place of a row that has cells, as one above it has, and that nothing joins with the rows above it: most likely a rung of its
-- own, that no blank line parts from the one above it.
abbrev pub IsApart : Drawing → ℕ → ℕ → ℕ → Type 0
IsApart d rung row column =
    (column ≡ 0) × HasCells d rung row × SomeBelow row (HasCells d rung) × (SomeBelow COLUMNS (IsJoinedAt d rung row) → ⊥)

-- ---- what cells do with variables and instances

-- what a contact reads: a variable, or the output of an instance
abbrev pub operand_of : Cell → Option Symbol
operand_of (cell.Contact mode (operand.Var var) memory) = Some (symbol.Var var)
operand_of (cell.Contact mode (operand.Output inst) memory) = Some (symbol.Instance inst)
operand_of other = None

-- the cell is a contact on the variable or on the output of the instance
abbrev pub Reads : Symbol → Cell → Type 0
Reads s c = operand_of c ≡ Some s

-- what is drawn at a cell: what a contact reads, what a coil writes, or the instance of a block
abbrev pub drawn_symbol : Cell → Option Symbol
drawn_symbol (cell.Coil mode var memory) = Some (symbol.Var var)
drawn_symbol (cell.Block inst) = Some (symbol.Instance inst)
drawn_symbol other = operand_of other

-- the cell is a contact or a coil on the variable, a contact on the output of the instance, or its block
abbrev pub Draws : Symbol → Cell → Type 0
Draws s c = drawn_symbol c ≡ Some s

-- the cell is a coil, for whose mode and variable it holds
abbrev pub IsCoilAnd : Cell → (CoilMode → ℕ → Type 0) → Type 0
IsCoilAnd c Holds = IsSomeAnd (coil_in c) (λ coil. Holds coil.0 coil.1)

-- a set or reset coil
abbrev pub IsLatch : CoilMode → Type 0
IsLatch m = (m ≡ coil.Set) ⊎ (m ≡ coil.Reset)

-- The cell is a coil on the variable, and it and a coil of this mode are not both set or reset coils.
unfoldable pub Clashes : CoilMode → ℕ → Cell → Type 0
Clashes mode var c = IsCoilAnd c (λ other written. (written ≡ var) × ((IsLatch mode × IsLatch other) → ⊥))

-- ---- variables and instances

-- the variable is declared, and is of this kind
abbrev pub IsOfKind : VarKind → Declared → ℕ → Type 0
IsOfKind k declared var = IsSomeAnd (slice_get declared.vars var) (λ v. v.kind ≡ k)

-- one of the first n places has such a cell
abbrev pub HasCellBefore : Drawing → (Cell → Type 0) → ℕ → Type 0
HasCellBefore d Such n = SomeBelow n (λ i. Such (cell_in d i))

-- some place has such a cell
abbrev pub HasCell : Drawing → (Cell → Type 0) → Type 0
HasCell d Such = HasCellBefore d Such (length d.sites)

-- A coil on a variable that an earlier coil writes: in a scan the later one decides. Set and reset coils share a variable as they are meant to.
abbrev pub IsWrittenTwice : Drawing → ℕ → Type 0
IsWrittenTwice d n = IsCoilAnd (cell_in d n) (λ mode var. HasCellBefore d (Clashes mode var) n)

-- Nothing gives it a value: a variable that is no input and that no coil writes, or an instance that is not drawn.
abbrev pub IsUnwritten : Drawing → Symbol → Type 0
IsUnwritten d (symbol.Var var) = (IsOfKind kind.Input d.decls var → ⊥) × (has_coil var d ≡ false)
IsUnwritten d (symbol.Instance inst) = HasCell d (λ c. block_in c ≡ Some inst) → ⊥

-- The first contact that reads what nothing gives a value.
abbrev pub IsNeverWritten : Drawing → ℕ → Type 0
IsNeverWritten d n = IsSomeAnd (operand_of (cell_in d n)) (λ s. IsUnwritten d s × (HasCellBefore d (Reads s) n → ⊥))

-- The first coil that writes a variable whose value nothing uses: it is neither input nor output, and no contact reads it.
abbrev pub IsNeverRead : Drawing → ℕ → Type 0
IsNeverRead d n = IsCoilAnd (cell_in d n) (λ mode var.
    IsOfKind kind.Memory d.decls var × (HasCell d (Reads (symbol.Var var)) → ⊥) × (HasCellBefore d (λ c. is_coil_of var c ≡ true) n → ⊥))

-- ---- declarations

-- Nothing is drawn of what is declared: an input that no rung reads, another variable that is neither read nor written, an instance without
-- a block whose output no contact reads.
abbrev pub IsUnused : Drawing → Symbol → Type 0
IsUnused d s = HasCell d (Draws s) → ⊥

-- ---- places

-- at the n-th place of all
abbrev pub AtPlace : (ℕ → ℕ → ℕ → Type 0) → ℕ → Type 0
AtPlace Such n = Such (n / PLACES) (n % PLACES % ROWS) (n % PLACES / ROWS)

-- the place has the warning
abbrev pub IsWarned : Drawing → ℕ → Warning → Type 0
IsWarned d n warning.LooseCrossing = AtPlace (IsLooseCrossing d) n
IsWarned d n warning.Apart = AtPlace (IsApart d) n
IsWarned d n warning.LeadsNowhere = AtPlace (LeadsNowhere d) n
IsWarned d n warning.WrittenTwice = IsWrittenTwice d n
IsWarned d n warning.NeverWritten = IsNeverWritten d n
IsWarned d n warning.NeverRead = IsNeverRead d n
IsWarned d n warning.NeverReached = AtPlace (IsNeverReached d) n
