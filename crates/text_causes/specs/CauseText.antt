-- The text of a list of causes: a record with the names of the listed inputs, and one for each cause.
use Rattle.std.specs.Prelude.{◌≤◌, ℕ, List, [], ◌∷◌, length, map, slice_get, Option, Some, None, codes, decimal, option_map, take, unwrap_or}
use Rattle.std.specs.List.{range_with_len}
use Rattle.io_text.specs.Left.{Fields}
use Rattle.io_text.specs.Text.{bit_text, lines_text}
use Rattle.diagram_declarations.specs.declared.decls.Var.{Var}
use Rattle.diagram_program.specs.Program.{Drawing}
use Rattle.causes_query.specs.Assignment.{bit_of}
use Rattle.causes_one_scan.specs.Cursor.{Cursor, Takes}

-- the title of a variable
abbrev pub name_of : Drawing → ℕ → List ℕ
name_of p var = unwrap_or (option_map (λ (v : Var). v.title) (slice_get p.decls.vars var)) []

abbrev pub header_record : Drawing → List ℕ → Fields
header_record p listed = codes "number" ∷ map (name_of p) listed

-- a number in decimal, and its bits as the k listed inputs have them
abbrev pub cause_record : ℕ → ℕ → Fields
cause_record k n = decimal n ∷ map (λ place. bit_text (bit_of k place n)) (range_with_len 0 k)

abbrev pub cause_text : Drawing → List ℕ → List ℕ → List ℕ
cause_text p listed causes = lines_text (header_record p listed ∷ map (cause_record (length listed)) causes)

-- the first items of a list, where there is a limit
abbrev pub limited : {A : Type 0} → Option ℕ → List A → List A
limited limit items = elim limit [ Some most ↦ take most items | None ↦ items ]

-- The cursor has given some of its causes, at most this many.
abbrev pub TakesAtMost : Cursor → Cursor → ℕ → Type 0
TakesAtMost old new most = (n : ℕ) × (n ≤ most) × Takes old new n
