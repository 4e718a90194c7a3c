-- Where power gets to from the right end of a cell, as routes.
use Rattle.std.specs.Prelude.{◌≡◌, ◌⊎◌, ◌+◌, ◌<◌, ℕ, List, [], ◌∷◌, Bool, true, false}
use Rattle.diagram_program.specs.declared.geometry.TheConstants.{COLUMNS, ROWS}
use Rattle.diagram_program.specs.declared.cell.Cell.{Cell}
use Rattle.diagram_program.specs.declared.cell.Cell.TheVariants as cell
use Rattle.diagram_program.specs.Program.{Drawing, feeds, site_at}

-- The cell takes power and does something with it: a coil, an input of a block, a jump or a return.
abbrev pub uses_power : Cell → Bool
uses_power c =
    elim c [ cell.Coil mode var memory ↦ true | cell.Block inst ↦ true | cell.Lower inst linked ↦ linked | cell.Jump target ↦ true | cell.Return ↦ true | _ ↦ false ]

-- Power can go on through the cell: a wire or a contact.
abbrev pub passes_power : Cell → Bool
passes_power c = elim c [ cell.Wire ↦ true | cell.Contact mode operand memory ↦ true | _ ↦ false ]

-- The right link of the row `from` leads to the cell, and that is one that uses power, or one through which power gets onward.
unfoldable pub LeadsThrough : Drawing → ℕ → ℕ → ℕ → ℕ → Type 0 → Type 0
LeadsThrough d rung from row column Onward =
    (feeds d rung row column from ≡ true)
    × ((uses_power (site_at d rung row column).cell ≡ true) ⊎ ((passes_power (site_at d rung row column).cell ≡ true) × Onward))

-- A route from the right end of the cell at a row and column: it goes through one cell in each of the next columns, in these rows, and ends
-- at one that uses power.
unfoldable pub IsRoute : Drawing → ℕ → ℕ → ℕ → List ℕ → Type 0
IsRoute d rung from column [] = ⊥
IsRoute d rung from column (row ∷ rows) =
    (row < ROWS) × (column + 1 < COLUMNS) × LeadsThrough d rung from row (column + 1) (IsRoute d rung row (column + 1) rows)

-- a route goes from the right end of the cell
abbrev pub HasRoute : Drawing → ℕ → ℕ → ℕ → Type 0
HasRoute d rung row column = (rows : List ℕ) × IsRoute d rung row column rows

abbrev pub is_contact : Cell → Bool
is_contact c = elim c [ cell.Contact mode operand memory ↦ true | _ ↦ false ]

-- A contact from whose right end no route goes to a cell that uses power.
abbrev pub LeadsNowhere : Drawing → ℕ → ℕ → ℕ → Type 0
LeadsNowhere d rung row column = (is_contact (site_at d rung row column).cell ≡ true) × (HasRoute d rung row column → ⊥)
