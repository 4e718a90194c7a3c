-- The rows of all warnings.
-- Rungs, rows and columns are counted from 0. Places go by rung, column and row.
use Rattle.std.specs.Prelude.{◌∷◌, ◌++◌, ◌+◌, ℕ, List, [], Option, Some, codes, decimal, length, slice_index_or}
use Rattle.std.specs.List.{flat_map, range_with_len}
use Rattle.std.specs.Option.{option_map_or}
use Rattle.diagram_declarations.specs.Decls.{Declared, names_of, symbol_name}
use Rattle.diagram_declarations.specs.declared.decls.Symbol.{Symbol}
use Rattle.diagram_declarations.specs.declared.decls.Symbol.TheVariants as symbol
use Rattle.diagram_program.specs.Geometry.{at_place}
use Rattle.diagram_program.specs.declared.cell.Cell.{Cell}
use Rattle.diagram_program.specs.declared.cell.Cell.TheVariants as cell
use Rattle.diagram_program.specs.Program.{Drawing, cell_in}
use Rattle.io_text.specs.Left.{Fields}
use Rattle.text_warnings.specs.declared.warning.Warning.{Warning}
use Rattle.text_warnings.specs.declared.warning.Warning.TheVariants.{LooseCrossing, Apart, LeadsNowhere, WrittenTwice, NeverWritten, NeverRead, NeverReached}
use Rattle.text_cross_reference.specs.Uses.{symbols_of}
use Rattle.text_warnings.specs.Warned.{operand_of}
use Rattle.text_warnings.specs.Told.{Told}

-- ---- rows of the text

-- the row where something holds, and none where it does not
abbrev pub row_if : {Holds : Type 0} → Dec Holds → Fields → List Fields
row_if (yes holds) row = row ∷ []
row_if (no fails) row = []

abbrev pub warning_word : Warning → List ℕ
warning_word LooseCrossing = codes "loose_crossing"
warning_word Apart = codes "apart"
warning_word LeadsNowhere = codes "leads_nowhere"
warning_word WrittenTwice = codes "written_twice"
warning_word NeverWritten = codes "never_written"
warning_word NeverRead = codes "never_read"
warning_word NeverReached = codes "never_reached"

-- what a contact reads or a coil writes
abbrev pub symbol_of : Cell → Option Symbol
symbol_of (cell.Coil mode var memory) = Some (symbol.Var var)
symbol_of other = operand_of other

-- the name of what is read or written at a place
abbrev pub name_at : Drawing → ℕ → List ℕ
name_at d n = option_map_or (symbol_name d.decls) (symbol_of (cell_in d n)) []

-- what a warning names: the variable or the instance, and nothing where it is about joints, rows or rungs
abbrev pub warned_name : Drawing → ℕ → Warning → List ℕ
warned_name d n LooseCrossing = []
warned_name d n Apart = []
warned_name d n NeverReached = []
warned_name d n other = name_at d n

-- The row of a warning. In it rungs, rows and columns are counted from 1.
abbrev pub warning_row : Drawing → ℕ → Warning → Fields
warning_row d n w =
    at_place (λ rung row column. codes "warning" ∷ warning_word w ∷ decimal (rung + 1) ∷ decimal (row + 1) ∷ decimal (column + 1) ∷ warned_name d n w ∷ []) n

abbrev pub row_if_warned : Told → Drawing → ℕ → Warning → List Fields
row_if_warned told d n w = row_if (told.warned d n w) (warning_row d n w)

-- all warnings, in the order in which they are reported at one place
abbrev pub all_warnings : List Warning
all_warnings = LooseCrossing ∷ Apart ∷ LeadsNowhere ∷ WrittenTwice ∷ NeverWritten ∷ NeverRead ∷ NeverReached ∷ []

unfoldable pub rows_at : Told → Drawing → ℕ → List Fields
rows_at told d n = flat_map (row_if_warned told d n) all_warnings

-- A row for each warning of each place, in the order of places.
unfoldable pub place_rows : Told → Drawing → List Fields
place_rows told d = flat_map (rows_at told d) (range_with_len 0 (length d.sites))

-- ---- names that are similar

-- the name with a number: variables come first, then instances, each in order of declaration
abbrev pub name_at_number : Declared → ℕ → List ℕ
name_at_number declared n = slice_index_or (names_of declared) n []

-- The row of two names. It is about their declarations, and so about no rung, row or column.
abbrev pub similar_row : List ℕ → List ℕ → Fields
similar_row name earlier = codes "warning" ∷ codes "similar_names" ∷ [] ∷ [] ∷ [] ∷ (name ++ (codes " " ++ earlier)) ∷ []

abbrev pub row_if_similar : Told → List ℕ → List ℕ → List Fields
row_if_similar told name earlier = row_if (told.similar name earlier) (similar_row name earlier)

-- the row of two names by their numbers, where they are similar
abbrev pub row_of_names : Told → Declared → ℕ → ℕ → List Fields
row_of_names told declared n earlier = row_if_similar told (name_at_number declared n) (name_at_number declared earlier)

-- the rows of a name with those before it
unfoldable pub rows_of_name : Told → Declared → ℕ → List Fields
rows_of_name told declared n = flat_map (row_of_names told declared n) (range_with_len 0 n)

-- A row for each two names that are similar.
unfoldable pub name_rows : Told → Declared → List Fields
name_rows told declared = flat_map (rows_of_name told declared) (range_with_len 0 (length (names_of declared)))

-- ---- what is declared, and nothing is drawn of it

-- The row of a name that is declared alone. It is about its declaration, and has 0 for rung, row and column, as its row in the
-- cross-reference has.
abbrev pub unused_row : List ℕ → Fields
unused_row name = codes "warning" ∷ codes "unused" ∷ codes "0" ∷ codes "0" ∷ codes "0" ∷ name ∷ []

abbrev pub row_if_unused : Told → Drawing → Symbol → List Fields
row_if_unused told d s = row_if (told.unused d s) (unused_row (symbol_name d.decls s))

-- A row for each variable, and then each instance, that nothing is drawn of.
unfoldable pub unused_rows : Told → Drawing → List Fields
unused_rows told d = flat_map (row_if_unused told d) (symbols_of d.decls)

-- ---- all rows

-- those of declarations
unfoldable pub declared_rows : Told → Drawing → List Fields
declared_rows told d = name_rows told d.decls ++ unused_rows told d

-- All rows: those of declarations, and then those of places.
unfoldable pub warning_rows : Told → Drawing → List Fields
warning_rows told d = declared_rows told d ++ place_rows told d
