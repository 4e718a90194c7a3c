-- The cross-reference of a program (the profile): each name with the places where it is drawn.
use Rattle.std.specs.Prelude.{◌++◌, ◌∷◌, ◌+◌, ◌==◌, ℕ, List, [], if◌then◌else◌, Option, Some, None, codes, decimal, filter_map, length, map, option_map}
use Rattle.std.specs.List.{flat_map, range_with_len}
use Rattle.diagram_declarations.specs.Decls.{Declared, symbol_name}
use Rattle.diagram_declarations.specs.declared.decls.Symbol.{Symbol}
use Rattle.diagram_declarations.specs.declared.decls.Symbol.TheVariants as symbol
use Rattle.diagram_program.specs.declared.cell.Cell.{Cell}
use Rattle.diagram_program.specs.declared.cell.Cell.TheVariants as cell
use Rattle.diagram_program.specs.declared.mode.Mode.TheVariants as mode
use Rattle.diagram_program.specs.declared.mode.CoilMode.TheVariants as coil
use Rattle.diagram_program.specs.declared.cell.Operand.TheVariants as operand
use Rattle.diagram_program.specs.Geometry.{at_place}
use Rattle.diagram_program.specs.Program.{Drawing, cell_in}
use Rattle.io_text.specs.Left.{Fields}
use Rattle.io_text.specs.Text.{lines_text}
use Rattle.text_cross_reference.specs.declared.usage.Use.{Use}
use Rattle.text_cross_reference.specs.declared.usage.Use.TheVariants.{Contact, Coil, Block}

-- ---- one cell

-- How a cell uses a variable or an instance, where it does. A contact on an output uses the instance; a lower cell belongs to the block
-- above it.
abbrev pub use_of : Symbol → Cell → Option Use
use_of (symbol.Var v) (cell.Contact m (operand.Var var) memory) = if v == var then Some (Contact m) else None
use_of (symbol.Instance i) (cell.Contact m (operand.Output inst) memory) = if i == inst then Some (Contact m) else None
use_of (symbol.Var v) (cell.Coil m var memory) = if v == var then Some (Coil m) else None
use_of (symbol.Instance i) (cell.Block inst) = if i == inst then Some Block else None
use_of other c = None

-- the word of a use
abbrev pub use_word : Use → List ℕ
use_word (Contact mode.Plain) = codes "contact"
use_word (Contact mode.Negated) = codes "not_contact"
use_word (Contact mode.Rising) = codes "rise_contact"
use_word (Contact mode.Falling) = codes "fall_contact"
use_word (Coil coil.Store) = codes "coil"
use_word (Coil coil.Inverse) = codes "not_coil"
use_word (Coil coil.Set) = codes "set_coil"
use_word (Coil coil.Reset) = codes "reset_coil"
use_word (Coil coil.Rising) = codes "rise_coil"
use_word (Coil coil.Falling) = codes "fall_coil"
use_word Block = codes "block"

-- ---- one name

-- The row of a name at a place. Rungs, rows and columns are counted from 1.
abbrev pub use_row : List ℕ → Use → ℕ → Fields
use_row name used = at_place (λ rung row column. name ∷ use_word used ∷ decimal (rung + 1) ∷ decimal (row + 1) ∷ decimal (column + 1) ∷ [])

-- a row for each place where the symbol is drawn, by rung, column and row
abbrev pub place_rows : Drawing → List ℕ → Symbol → List Fields
place_rows p name s =
    filter_map (λ place. option_map (λ used. use_row name used place) (use_of s (cell_in p place))) (range_with_len 0 (length p.sites))

-- these rows, or the one row of a name that has none
abbrev pub or_unused : List ℕ → List Fields → List Fields
or_unused name [] = (name ∷ codes "unused" ∷ codes "0" ∷ codes "0" ∷ codes "0" ∷ []) ∷ []
or_unused name (r ∷ rows) = r ∷ rows

-- ---- all names

-- all variables, and then all instances, as they are declared
abbrev pub symbols_of : Declared → List Symbol
symbols_of declared =
    map symbol.Var (range_with_len 0 (length declared.vars)) ++ map symbol.Instance (range_with_len 0 (length declared.instances))

-- the rows of a symbol, one at least
abbrev pub symbol_rows : Drawing → Symbol → List Fields
symbol_rows p s = or_unused (symbol_name p.decls s) (place_rows p (symbol_name p.decls s) s)

-- the rows after the header
abbrev pub use_rows : Drawing → List Fields
use_rows p = flat_map (symbol_rows p) (symbols_of p.decls)

-- the text that is written: a header, and these rows
abbrev pub uses_text : Drawing → List ℕ
uses_text p = lines_text ((codes "name" ∷ codes "use" ∷ codes "rung" ∷ codes "row" ∷ codes "column" ∷ []) ∷ use_rows p)
