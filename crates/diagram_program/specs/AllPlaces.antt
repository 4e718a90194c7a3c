-- Private: places as the code counts them, and lists with an entry for each.
use Rattle.std.specs.Prelude.{ℕ, zero, suc, ◌+◌, ◌*◌, List, [], ◌∷◌, ◌++◌}
use Rattle.diagram_program.specs.declared.geometry.TheConstants.{COLUMNS, PLACES}
use Rattle.diagram_program.specs.Geometry.{at_place}

-- The number of a place in the order of reading: by rung, row and column.
abbrev pub reading_place : ℕ → ℕ → ℕ → ℕ
reading_place rung row column = PLACES * rung + (COLUMNS * row + column)

-- f 0, f 1 and so on, n of them
unfoldable pub first_places : {A : Type 0} → (ℕ → A) → ℕ → List A
first_places f zero = []
first_places f (suc n) = first_places f n ++ f n ∷ []

-- by rung, column and row
abbrev pub all_places : {A : Type 0} → (ℕ → ℕ → ℕ → A) → ℕ → List A
all_places f rungs = first_places (at_place f) (PLACES * rungs)
