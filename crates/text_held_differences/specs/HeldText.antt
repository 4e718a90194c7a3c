-- The text of what two programs do differently over several scans: a record with the names of the listed inputs, and one for each difference.
use Rattle.std.specs.Prelude.{◌≡◌, ◌≤◌, ℕ, List, ◌∷◌, Option, Some, None, codes, decimal, drop, length, map}
use Rattle.std.specs.List.{range_with_len}
use Rattle.io_text.specs.Left.{Fields}
use Rattle.io_text.specs.Text.{bit_text, lines_text}
use Rattle.diagram_program.specs.Program.{Drawing}
use Rattle.causes_query.specs.Assignment.{bit_of}
use Rattle.diff_held.specs.Cursor.{HeldDifferenceCursor, KeepsQuestions}
use Rattle.diff_held.specs.declared.row.HeldDifference.{HeldDifference}
use Rattle.text_differences.specs.DifferenceText.{difference_header}

-- a first scan in decimal, or - where there is none
abbrev pub scan_field : Option ℕ → List ℕ
scan_field None = codes "-"
scan_field (Some scan) = decimal scan

-- a number in decimal, the first scan of each program, and the number's bits as the k listed inputs have them
abbrev pub held_difference_record : ℕ → HeldDifference → Fields
held_difference_record k d =
    decimal d.number ∷ scan_field d.of_old ∷ scan_field d.of_new ∷ map (λ place. bit_text (bit_of k place d.number)) (range_with_len 0 k)

abbrev pub held_difference_text : Drawing → List ℕ → List HeldDifference → List ℕ
held_difference_text p listed rows = lines_text (difference_header p listed ∷ map (held_difference_record (length listed)) rows)

-- The cursor has given n of its differences, and goes on with what it was asked.
pub record TakesHeld (old new : HeldDifferenceCursor) (n : ℕ) : Type 0 where
  pub questions : KeepsQuestions old new
  pub rest : new.rest ≡ drop n old.rest

-- It has given some of them, at most this many.
abbrev pub TakesHeldAtMost : HeldDifferenceCursor → HeldDifferenceCursor → ℕ → Type 0
TakesHeldAtMost old new most = (n : ℕ) × (n ≤ most) × TakesHeld old new n
