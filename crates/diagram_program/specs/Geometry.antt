-- The geometry of a drawing. Rungs, rows and columns are counted from 0.
use Rattle.std.specs.Prelude.{ℕ, ◌+◌, ◌*◌, ◌/◌, ◌%◌}
use Rattle.diagram_program.specs.declared.geometry.TheConstants.{ROWS, PLACES}

-- The number of a place among all, by rung, column and row.
abbrev pub place : ℕ → ℕ → ℕ → ℕ
place rung row column = PLACES * rung + (ROWS * column + row)

-- at the n-th place of all, by rung, column and row
abbrev pub at_place : {A : Type 0} → (ℕ → ℕ → ℕ → A) → ℕ → A
at_place f n = f (n / PLACES) (n % PLACES % ROWS) (n % PLACES / ROWS)
