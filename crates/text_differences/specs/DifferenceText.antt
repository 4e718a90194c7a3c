-- The text of what two programs do differently: a record with the names of the listed inputs, and one for each difference.
use Rattle.std.specs.Prelude.{◌≡◌, ◌≤◌, ℕ, List, [], ◌∷◌, ◌++◌, Option, Some, None, codes, decimal, drop, filter, length, map, nat_le}
use Rattle.std.specs.List.{range_with_len}
use Rattle.io_text.specs.Left.{Fields}
use Rattle.io_text.specs.Text.{bit_text, lines_text}
use Rattle.diagram_program.specs.Program.{Drawing}
use Rattle.causes_query.specs.Assignment.{bit_of}
use Rattle.search_differences.specs.declared.side.Side.{Side}
use Rattle.search_differences.specs.declared.side.Side.TheVariants.{Old, New}
use Rattle.diff_causes.specs.Cursor.{DifferenceCursor, KeepsQuestions}
use Rattle.diff_causes.specs.declared.rows.Difference.{Difference}
use Rattle.text_causes.specs.CauseText.{name_of}

abbrev pub difference_header : Drawing → List ℕ → Fields
difference_header p listed = codes "number" ∷ codes "old" ∷ codes "new" ∷ map (name_of p) listed

-- a column for each program: 1 for the one that alone leaves the coil ON, 0 for the other
abbrev pub columns : Side → Fields
columns Old = codes "1" ∷ codes "0" ∷ []
columns New = codes "0" ∷ codes "1" ∷ []

-- a number in decimal, the columns of the programs, and the number's bits as the k listed inputs have them
abbrev pub difference_record : ℕ → Difference → Fields
difference_record k d = decimal d.number ∷ (columns d.side ++ map (λ place. bit_text (bit_of k place d.number)) (range_with_len 0 k))

abbrev pub difference_text : Drawing → List ℕ → List Difference → List ℕ
difference_text p listed rows = lines_text (difference_header p listed ∷ map (difference_record (length listed)) rows)

-- those up to a number, or all where there is none
abbrev pub part : Option ℕ → List Difference → List Difference
part None rows = rows
part (Some last) rows = filter (λ d. nat_le d.number last) rows

-- The cursor has given n of its differences, and goes on with what it was asked.
pub record TakesDifferences (old new : DifferenceCursor) (n : ℕ) : Type 0 where
  pub questions : KeepsQuestions old new
  pub rest : new.rest ≡ drop n old.rest

-- It has given some of them, at most this many.
abbrev pub TakesDifferencesAtMost : DifferenceCursor → DifferenceCursor → ℕ → Type 0
TakesDifferencesAtMost old new most = (n : ℕ) × (n ≤ most) × TakesDifferences old new n
