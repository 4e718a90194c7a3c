-- Private: the characters of a cell and those over it.
use Rattle.std.specs.Prelude.{ℕ, ◌+◌, ◌*◌, List}
use Rattle.diagram_page.specs.Picture.{Lines, text_at}

abbrev pub cell_text : Lines → ℕ → ℕ → List ℕ
cell_text rung r c = text_at rung (2 * r + 1) c

abbrev pub text_over : Lines → ℕ → ℕ → List ℕ
text_over rung r c = text_at rung (2 * r) c
