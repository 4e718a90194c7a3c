-- Rows of the same length.
use Rattle.std.specs.Prelude.{ℕ, zero, suc, List, [], ◌∷◌, drop, take}

-- Rows of a length.
pub record Table (A : Type 0) : Type 0 where
  pub width : ℕ
  pub rows : List (List A)

-- A list cut into so many rows of a length.
abbrev pub rows_of : {A : Type 0} → ℕ → ℕ → List A → List (List A)
rows_of width zero items = []
rows_of width (suc count) items = take width items ∷ rows_of width count (drop width items)
