-- Private to the writer of causes: the lines of the text one by one, and the rows as far as they are written.
use Rattle.std.specs.Prelude.{ℕ, List, [], map, Option, option_map, unwrap_or}
use Rattle.std.specs.List.{range_with_len}
use Rattle.io_text.specs.Text.{bit_text, line_text, lines_text}
use Rattle.diagram_declarations.specs.declared.decls.Var.{Var}
use Rattle.diagram_program.specs.Program.{Drawing}
use Rattle.causes_query.specs.Assignment.{bit_of}
use Rattle.text_causes.specs.CauseText.{cause_record, header_record}

abbrev pub name_in : Option Var → List ℕ
name_in var = unwrap_or (option_map (λ (v : Var). v.title) var) []

abbrev pub header : Drawing → List ℕ → List ℕ
header p listed = line_text (header_record p listed)

-- the first i of the k bits of a number, in the order of the list
abbrev pub bits : ℕ → ℕ → ℕ → List (List ℕ)
bits k n i = map (λ place. bit_text (bit_of k place n)) (range_with_len 0 i)

abbrev pub row : ℕ → ℕ → List ℕ
row k n = line_text (cause_record k n)

abbrev pub rows : ℕ → List ℕ → List ℕ
rows k causes = lines_text (map (cause_record k) causes)
