-- Private to the writing: the rows of one place.
use Rattle.std.specs.Prelude.{◌∷◌, ℕ, List, [], Option, Some, None}
use Rattle.io_text.specs.Left.{Fields}
use Rattle.text_cross_reference.specs.declared.usage.Use.{Use}
use Rattle.text_cross_reference.specs.Uses.{use_row}

-- one row where a cell uses the name, and else none
abbrev pub row_of : List ℕ → ℕ → Option Use → List Fields
row_of name place None = []
row_of name place (Some used) = use_row name used place ∷ []
