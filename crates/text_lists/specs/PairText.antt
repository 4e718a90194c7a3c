-- The text of pairs of which never both are ON: the names of each pair.
use Rattle.std.specs.Prelude.{◌∷◌, ℕ, List, [], codes, map}
use Rattle.diagram_program.specs.Program.{Drawing}
use Rattle.invariant_cases.specs.declared.pair.Pair.{Pair}
use Rattle.io_text.specs.Left.{Fields}
use Rattle.io_text.specs.Text.{lines_text}
use Rattle.diagram_declarations.specs.Decls.{symbol_name}

-- the row of a pair: both names, as they are declared
abbrev pub pair_row : Drawing → Pair → Fields
pair_row p pair = symbol_name p.decls pair.first ∷ symbol_name p.decls pair.second ∷ []

-- the text that is written: a header, and a row for each pair
abbrev pub pairs_text : Drawing → List Pair → List ℕ
pairs_text p pairs = lines_text ((codes "first" ∷ codes "second" ∷ []) ∷ map (pair_row p) pairs)
